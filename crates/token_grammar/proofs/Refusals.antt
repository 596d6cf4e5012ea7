-- From what a reader leaves or refuses to a fault with its place.
use Rattle.std.proofs.Common.{ℕ, ◌≡◌, ◌∙◌, ◌++◌, ◌-◌, ◌==◌, ◌<◌, true, false, List, [], ◌∷◌, length, drop, refl, sym, ap, subst, arith, length-append}
use Rattle.std.proofs.lemmas.Bool.{eqb-true}
use Rattle.msc_base.specs.declared.place.Place.{Place}
use Rattle.msc_tokens.specs.declared.token.Token.{Token}
use Rattle.token_grammar.specs.Answers.{Fails}
use Rattle.token_grammar.specs.Grammars.{Grammar}
use Rattle.token_grammar.specs.Languages.{Read}
use Rattle.token_grammar.specs.Parsing.{IsRefused}
use Rattle.token_grammar.specs.Refusals.{RefusesAt}
use Rattle.token_grammar.specs.Refused.{fault_at}
use Rattle.token_grammar.specs.declared.fault.ParseFault.{ParseFault}
use Rattle.token_grammar.specs.declared.readers.ReadFault.{ReadFault}

-- the fault is at the first of the last so many tokens
abbrev pub Stands : List Token → ℕ → Place → ParseFault → Type 0
Stands ts left end fault = (prefix rest : List Token) → ts ≡ prefix ++ rest → left ≡ length rest → fault ≡ fault_at rest end

pub refused_at : {A : Type 0} (R : ℕ → Grammar A) (levels : ℕ) (ts : List Token) (left : ℕ) (end : Place) (fault : ParseFault) → IsRefused R levels ts left → Stands ts left end fault
    → RefusesAt R levels ts end fault
refused_at R levels ts left end fault r at = record { left = left; first = r; at = at r.prefix r.rest r.cut r.counted }

-- the rest of a list, by its length
pub drop_rest : (ts prefix rest : List Token) (left : ℕ) → ts ≡ prefix ++ rest → left ≡ length rest → drop (length ts - left) ts ≡ rest
drop_rest ts prefix rest left e n =
    let count : length ts - left ≡ length prefix = omega (arith, ap (λ (l : List Token). length l) e, length-append prefix rest) in
    rw count (subst (λ (l : List Token). drop (length prefix) l ≡ rest) (sym e) (behind_front prefix rest))
  where
    behind_front : (prefix rest : List Token) → drop (length prefix) (prefix ++ rest) ≡ rest
    behind_front [] rest = refl
    behind_front (t ∷ prefix) rest = behind_front prefix rest

pub too_many_left : (ts prefix rest : List Token) (left : ℕ) → ts ≡ prefix ++ rest → left ≡ length rest → length ts < left → ⊥
too_many_left ts prefix rest left e n lt = omega (arith, ap (λ (l : List Token). length l) e, length-append prefix rest)

pub empty_of : (ts : List Token) → (length ts == 0) ≡ true → ts ≡ []
empty_of [] e = refl
empty_of (t ∷ ts) e = let h = eqb-true (length (t ∷ ts)) 0 e in absurd (omega arith)

pub some_of : (ts : List Token) → (length ts == 0) ≡ false → ts ≡ [] → ⊥
some_of ts e empty =
    let h : true ≡ false = sym (ap (λ (l : List Token). length l == 0) empty) ∙ e in
    cc

pub at_fault : {Y : Type 0} (f g : ReadFault) (x : Read Y) → f ≡ g → Fails f x → Fails g x
at_fault f g x e h = subst (λ (r : ReadFault). Fails r x) e h
