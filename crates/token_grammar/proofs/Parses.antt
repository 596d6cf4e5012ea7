-- A reading of all tokens is a parse, and the only one.
use Rattle.std.proofs.Common.{ℕ, ◌≡◌, ◌∙◌, ◌++◌, ◌⊎◌, List, [], ◌∷◌, length, refl, sym, ap, inl, inr, suc, append-nil, append_assoc, subst, Ok, Err}
use Rattle.msc_tokens.specs.declared.token.Token.{Token}
use Rattle.token_grammar.specs.Languages.{Set, refused, deep, Read}
use Rattle.token_grammar.specs.Grammars.{Grammar}
use Rattle.token_grammar.specs.Parsing.{BeginsReading, IsRefused, IsTooDeep, OneReading}
use Rattle.token_grammar.proofs.Lists.{NotStart, no_start, none_more}
use Rattle.token_grammar.proofs.Base.{Viable, Refused, TooDeep, Takes, Meant, Meets}
use Rattle.token_grammar.proofs.Levels.{reads_of, brink_of}
use Rattle.token_grammar.proofs.Rules.{Rule, Law}

pub one_value : {A : Type 0} (R : ℕ → Grammar A) (F : Set) (C : A → Set) → ((n : ℕ) → Law R n F C) → OneReading R
one_value R F C law m n ts a b h k = ((law m).laws.unique n ts ts [] [] a b h k refl (no_start (C a)) (no_start (C b))).1

module _ {A : Type 0} (R : ℕ → Grammar A) (n : ℕ) (F : Set) (C : A → Set) (p : List Token → Read A) (rule : Rule R n F C p) where
  begins_of : (m : ℕ) (used : List Token) → Viable (reads_of R) m used → BeginsReading R m used
  begins_of m used v = record { more = v.more; value = v.value; reads = v.holds }

  begins_or : (used : List Token) → (used ≡ []) ⊎ Viable (reads_of R) (suc n) used → BeginsReading R (suc n) used
  begins_or used (inl e) = subst (BeginsReading R (suc n)) (sym e) (begins_of (suc n) [] rule.known.word)
  begins_or used (inr v) = begins_of (suc n) used v

  is_refused : (ts : List Token) (k : ℕ) → Refused (reads_of R) (brink_of R) n F ts k → IsRefused R n ts k
  is_refused ts k h = record {
    prefix = h.used;
    rest = h.rest;
    cut = h.cut;
    counted = h.left;
    begins = begins_or h.used h.viable;
    level = h.safe;
    stops = λ m token behind e b. h.stops m (token ∷ b.more) b.value (meets token behind b.more e) (subst (λ l. (R m).reads l b.value) (append_assoc h.used (token ∷ []) b.more) b.reads);
    ends = λ e m value g. h.stops m [] value tt (subst (λ l. (R m).reads l value) (sym (append-nil h.used)) g);
  }
    where
      meets : (token : Token) (behind more : List Token) → h.rest ≡ token ∷ behind → Meets h.rest (token ∷ more)
      meets token behind more e = subst (λ l. Meets l (token ∷ more)) (sym e) refl

  of_read : (ts : List Token) (x : Read A) → p ts ≡ x → Meant (reads_of R) (brink_of R) n F C ts x
  of_read ts x e = subst (Meant (reads_of R) (brink_of R) n F C ts) e (rule.meant ts)

  pub refused_parse : (ts : List Token) (k : ℕ) → p ts ≡ Err (refused k) → IsRefused R n ts k
  refused_parse ts k e = is_refused ts k (of_read ts (Err (refused k)) e)

  pub deep_parse : (ts : List Token) (k : ℕ) → p ts ≡ Err (deep k) → IsTooDeep R n ts k
  deep_parse ts k e =
      let h : TooDeep (reads_of R) (brink_of R) n ts k = of_read ts (Err (deep k)) e in
      record { prefix = h.used; token = h.token; rest = h.rest; cut = h.cut; counted = h.left; opens = h.brink; level = h.safe }

  -- all tokens were read
  pub whole_parse : (ts rest : List Token) (a : A) → p ts ≡ Ok (a, rest) → rest ≡ [] → (R n).reads ts a
  whole_parse ts rest a e empty =
      let h : Takes (reads_of R) n C ts a rest = of_read ts (Ok (a, rest)) e in
      subst (λ l. (R n).reads l a) (sym (h.cut ∙ ap (λ l. h.used ++ l) empty ∙ append-nil h.used)) h.holds

  -- a token is left
  pub left_parse : (ts rest : List Token) (a : A) → p ts ≡ Ok (a, rest) → (rest ≡ [] → ⊥) → IsRefused R n ts (length rest)
  left_parse ts rest a e some =
      let h : Takes (reads_of R) n C ts a rest = of_read ts (Ok (a, rest)) e in
      record {
        prefix = h.used;
        rest = rest;
        cut = h.cut;
        counted = refl;
        begins = record { more = []; value = a; reads = subst (λ l. (R (suc n)).reads l a) (sym (append-nil h.used)) ((rule.known.laws n).up h.used a h.holds) };
        level = λ q z c k. rule.known.proper h.used a h.holds q z c k;
        stops = λ m token behind q b. no h.used rest token behind b.more b.value m h.holds h.ends q (subst (λ l. (R m).reads l b.value) (append_assoc h.used (token ∷ []) b.more) b.reads);
        ends = λ q m value g. some q;
      }
    where
      no : (used rest : List Token) (token : Token) (behind more : List Token) (b : A) (m : ℕ) → (R n).reads used a → NotStart (C a) rest → rest ≡ token ∷ behind
          → (R m).reads (used ++ token ∷ more) b → ⊥
      no used rest token behind more b m h ends q g =
          let out : NotStart (C a) (token ∷ more) = record { not_start = (subst (NotStart (C a)) q ends).not_start } in
          let same = (rule.known.laws n).unique m used (used ++ token ∷ more) (token ∷ more) [] a b h g (sym (append-nil (used ++ token ∷ more))) out (no_start (C b)) in
          none_more used token more same.0
