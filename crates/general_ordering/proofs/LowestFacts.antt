-- The lowest number of the events of a name tells whether one of them stands before a place.
use Rattle.std.specs.List.{list_any}
use Rattle.std.proofs.Common.{ℕ, ◌<◌, ◌≤◌, ◌≡◌, ◌||◌, ◌&&◌, ◌⊎◌, Bool, true, false, List, [], ◌∷◌, Option, Some, None, min, nat_lt, if◌then◌else◌, refl, sym, ◌∙◌, ap, inl, inr, arith}
use Rattle.std.proofs.lemmas.Bool.{cases_lt}
use Rattle.std.proofs.lemmas.Bool.Decides.{nat_tests}
use Rattle.msc_meaning.specs.Bodies.{EventNode}
use Rattle.msc_meaning.specs.Ties.{is_labelled, labelled}
use Rattle.general_ordering.specs.EventNames.{breaks, is_named_before, is_none, names_none, stands_before, Twice, Unknown}
use Rattle.general_ordering.specs.LevelNames.{has_before, is_lower, lower, lowest_from}

-- ---- whether one is below a number

-- the lower of two is below a number where one of them is
lower_before : (q r p : ℕ) → nat_lt (min q r) p ≡ (nat_lt q p || nat_lt r p)
lower_before q r p = by (cases_lt q p) (cases_lt r p)
  where
    by : (q < p) ⊎ (p ≤ q) → (r < p) ⊎ (p ≤ r) → nat_lt (min q r) p ≡ (nat_lt q p || nat_lt r p)
    by (inl a) k = let t : nat_lt q p ≡ true = grind (arith, nat_tests) in let low : min q r < p = omega arith in let u : nat_lt (min q r) p ≡ true = grind (arith, nat_tests) in u ∙ sym (ap (λ (b : Bool). b || nat_lt r p) t)
    by (inr a) (inl k) =
        let t : nat_lt q p ≡ false = grind (arith, nat_tests) in
        let v : nat_lt r p ≡ true = grind (arith, nat_tests) in
        let low : min q r < p = omega arith in
        let u : nat_lt (min q r) p ≡ true = grind (arith, nat_tests) in
        u ∙ sym (ap (λ (b : Bool). b || nat_lt r p) t ∙ v)
    by (inr a) (inr k) =
        let t : nat_lt q p ≡ false = grind (arith, nat_tests) in
        let v : nat_lt r p ≡ false = grind (arith, nat_tests) in
        let high : p ≤ min q r = omega arith in
        let u : nat_lt (min q r) p ≡ false = grind (arith, nat_tests) in
        u ∙ sym (ap (λ (b : Bool). b || nat_lt r p) t ∙ v)

or_assoc : (a b c : Bool) → ((a || b) || c) ≡ (a || (b || c))
or_assoc true b c = refl
or_assoc false b c = refl

or_none : (b : Bool) → b ≡ (b || false)
or_none true = refl
or_none false = refl

-- the lowest of numbers is below one where one of them is
lowest_tells : (o : Option ℕ) (ks : List ℕ) (p : ℕ) → is_lower (lowest_from o ks) p ≡ (is_lower o p || list_any (λ (k : ℕ). nat_lt k p) ks)
lowest_tells o [] p = or_none (is_lower o p)
lowest_tells o (k ∷ ks) p =
    lowest_tells (Some (lower o k)) ks p
    ∙ (ap (λ (b : Bool). b || list_any (λ (j : ℕ). nat_lt j p) ks) (by o) ∙ or_assoc (is_lower o p) (nat_lt k p) (list_any (λ (j : ℕ). nat_lt j p) ks))
  where
    by : (o : Option ℕ) → nat_lt (lower o k) p ≡ (is_lower o p || nat_lt k p)
    by None = refl
    by (Some q) = lower_before q k p

-- an event of the name stands before the number where one of their numbers is lower
numbers_tell : (name : List ℕ) (ns : List EventNode) (p : ℕ) → list_any (λ (k : ℕ). nat_lt k p) (labelled ns name) ≡ stands_before ns name p
numbers_tell name [] p = refl
numbers_tell name (n ∷ ns) p = by (is_labelled n.event.order.event_name name) (numbers_tell name ns p)
  where
    by : (b : Bool) → list_any (λ (k : ℕ). nat_lt k p) (labelled ns name) ≡ stands_before ns name p
        → list_any (λ (k : ℕ). nat_lt k p) (if b then n.number ∷ labelled ns name else labelled ns name) ≡ ((b && nat_lt n.number p) || stands_before ns name p)
    by true e = ap (λ (c : Bool). nat_lt n.number p || c) e
    by false e = e

-- ---- by the table of names

module _ (named : List ℕ → List ℕ) (all : List EventNode) (same : (name : List ℕ) → named name ≡ labelled all name) where
  pub lowest_before : (own : Option (List ℕ)) (p : ℕ) → has_before named own p ≡ is_named_before all own p
  lowest_before None p = refl
  lowest_before (Some name) p = lowest_tells None (named name) p ∙ (ap (λ (ks : List ℕ). list_any (λ (k : ℕ). nat_lt k p) ks) (same name) ∙ numbers_tell name all p)

  none_same : (names : List (List ℕ)) → names_none named names ≡ names_none (labelled all) names
  none_same [] = refl
  none_same (name ∷ names) = ap (λ (l : List ℕ). is_none l || names_none named names) (same name) ∙ ap (λ (b : Bool). is_none (labelled all name) || b) (none_same names)

  pub unknown_same : (n : EventNode) → (names_none named n.event.order.earlier_than || names_none named n.event.order.later_than) ≡ breaks Unknown all n
  unknown_same n = ap (λ (b : Bool). b || names_none named n.event.order.later_than) (none_same n.event.order.earlier_than) ∙ ap (λ (b : Bool). names_none (labelled all) n.event.order.earlier_than || b) (none_same n.event.order.later_than)
