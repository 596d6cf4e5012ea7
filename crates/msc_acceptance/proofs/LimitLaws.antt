-- Charts that keep the limits have no more instances than these allow.
use Rattle.std.proofs.Common.{◌≡◌, ◌≤◌, inl, inr, ℕ, suc, Bool, true, false, not, ◌&&◌, nat_lt, List, [], ◌∷◌, length, fold, refl, sym, subst, ap, ◌∙◌, arith}
use Rattle.std.specs.List.{list_any}
use Rattle.std.specs.Str.{bytes_eq}
use Rattle.std.proofs.lemmas.Bool.Decides.{nat_tests}
use Rattle.std.proofs.lemmas.Bool.{or_right}
use Rattle.msc_base.specs.Lists.{AreDifferent, IsAmong}
use Rattle.msc_base.specs.NameTables.{with_name}
use Rattle.msc_base.specs.declared.limits.TheConstants.Limits.{INSTANCES}
use Rattle.msc_base.proofs.NameFacts.{any_folded, any_from_one, one_from_any}
use Rattle.msc_acceptance.specs.Rules.{passes}

-- ---- different names among others are no more than these

-- the list without one of its names
record Without (names : List (List ℕ)) (name : List ℕ) : Type 0 where
  rest : List (List ℕ)
  one_less : length names ≡ suc (length rest)
  kept : (other : List ℕ) → IsAmong names other → (other ≡ name → ⊥) → IsAmong rest other

without : (names : List (List ℕ)) (name : List ℕ) → IsAmong names name → Without names name
without [] name h = absurd h
without (n ∷ names) name (inl e) = record {
  rest = names;
  one_less = refl;
  kept = λ other h ne. elim h [ inl same ↦ absurd (ne (same ∙ sym e)) | inr r ↦ r ];
}
without (n ∷ names) name (inr h) =
    let w = without names name h in
    record {
      rest = n ∷ w.rest;
      one_less = omega (arith, w.one_less);
      kept = λ other among ne. elim among [ inl same ↦ inl same | inr r ↦ inr (w.kept other r ne) ];
    }

pub no_more : (names others : List (List ℕ)) → AreDifferent names → ((name : List ℕ) → IsAmong names name → IsAmong others name) → length names ≤ length others
no_more [] others d among = omega arith
no_more (n ∷ names) others d among =
    let w = without others n (among n (inl refl)) in
    let rest = no_more names w.rest d.1 (λ name h. w.kept name (among name (inr h)) (λ e. d.0 (subst (IsAmong names) e h))) in
    omega (arith, rest, w.one_less)

-- ---- instances

pub folded : (seen names : List (List ℕ)) (m : List ℕ) → IsAmong names m → IsAmong (fold with_name seen names) m
folded seen names m h = one_from_any (fold with_name seen names) m (any_folded seen names m ∙ or_right (list_any (bytes_eq m) seen) (list_any (bytes_eq m) names) (any_from_one names m h))

pub not_passed : (before now : ℕ) → before ≤ INSTANCES → (passes INSTANCES before now ≡ true → ⊥) → now ≤ INSTANCES
not_passed before now le none = by (nat_lt INSTANCES now) refl
  where
    by : (b : Bool) → nat_lt INSTANCES now ≡ b → now ≤ INSTANCES
    by true e =
        let f : nat_lt INSTANCES before ≡ false = grind (arith, nat_tests) in
        absurd (none (ap (λ (c : Bool). not c && nat_lt INSTANCES now) f ∙ e))
    by false e = grind (arith, nat_tests)
