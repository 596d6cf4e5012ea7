-- The test of two places, and the earliest of several.
use Rattle.std.proofs.Common.{◌≡◌, Bool, true, false, not, ◌||◌, ◌&&◌, inl, inr, Option, None, Some, if◌then◌else◌, refl, subst, ◌∙◌}
use Rattle.std.proofs.lemmas.Bool.{or_cases, or_left, or_right}
use Rattle.list_facts.proofs.Bools.{tests_agree}
use Rattle.msc_base.proofs.PlaceFacts.{before_cases, before_through, never_both}
use Rattle.msc_base.specs.Places.{IsBefore, IsNoLater, earliest, earliest_if, is_before}
use Rattle.msc_base.specs.declared.place.Place.{Place}
use Rattle.gate_rules.specs.Claims.{reaches}

pub before_so : (p q : Place) → is_before p q ≡ true → IsBefore p q
before_so p q h = elim (before_cases p q) [ inl b ↦ b.1 | inr n ↦ cc (h, n.0) ]

pub so_before : (p q : Place) → IsBefore p q → is_before p q ≡ true
so_before p q h = elim (before_cases p q) [ inl b ↦ b.0 | inr n ↦ absurd (never_both p q h n.1) ]

pub not_before : (p q : Place) → is_before p q ≡ false → IsNoLater q p
not_before p q h = elim (before_cases p q) [ inl b ↦ cc (h, b.0) | inr n ↦ n.1 ]

before_no_later : (p q r : Place) → IsBefore p q → IsNoLater q r → IsBefore p r
before_no_later p q r a (inl b) = before_through p q r a b
before_no_later p q r a (inr e) = let P : Place → Type 0 = λ z. IsBefore p z in subst P e a

not_turned : (x y : Bool) → (x ≡ true → y ≡ true) → not y ≡ true → not x ≡ true
not_turned false y f h = refl
not_turned true false f h = f refl
not_turned true true f h = h

-- the earlier of two reaches a place where one of them does
earlier_reaches : (r q p : Place) → reaches (earliest (Some r) q) p ≡ (not (is_before p q) || not (is_before p r))
earlier_reaches r q p = by (is_before q r) refl
  where
    by : (b : Bool) → is_before q r ≡ b → reaches (if b then Some q else Some r) p ≡ (not (is_before p q) || not (is_before p r))
    by true e = tests_agree (not (is_before p q)) (not (is_before p q) || not (is_before p r)) (or_left (not (is_before p q)) (not (is_before p r)))
        (λ h. elim (or_cases (not (is_before p q)) (not (is_before p r)) h)
        [ inl a ↦ a | inr a ↦ not_turned (is_before p q) (is_before p r) (λ x. so_before p r (before_through p q r (before_so p q x) (before_so q r e))) a ])
    by false e = tests_agree (not (is_before p r)) (not (is_before p q) || not (is_before p r)) (or_right (not (is_before p q)) (not (is_before p r)))
        (λ h. elim (or_cases (not (is_before p q)) (not (is_before p r)) h)
        [ inl a ↦ not_turned (is_before p r) (is_before p q) (λ x. so_before p q (before_no_later p r q (before_so p r x) (not_before q r e))) a | inr a ↦ a ])

pub earliest_reaches : (o : Option Place) (q p : Place) (b : Bool) → reaches (earliest_if b o q) p ≡ ((not (is_before p q) && b) || reaches o p)
earliest_reaches None q p true = by (is_before p q)
  where
    by : (a : Bool) → not a ≡ ((not a && true) || false)
    by true = refl
    by false = refl
earliest_reaches (Some r) q p true = earlier_reaches r q p ∙ by (is_before p q) (is_before p r)
  where
    by : (a b : Bool) → (not a || not b) ≡ ((not a && true) || not b)
    by true b = refl
    by false b = refl
earliest_reaches o q p false = by (is_before p q) (reaches o p)
  where
    by : (a b : Bool) → b ≡ ((not a && false) || b)
    by true b = refl
    by false b = refl
