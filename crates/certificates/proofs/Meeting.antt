-- Two events meet exactly where they share an instance.
use Rattle.std.specs.Prelude.{ℕ, ◌==◌, ◌||◌, Bool, false, true, ◌∷◌, ◌≡◌, Option, Some, None, refl}
use Rattle.std.proofs.Common.{ap, sym, ◌∙◌, arith, inl, inr}
use Rattle.std.proofs.lemmas.Bool.{or_cases}
use Rattle.std.proofs.lemmas.Bool.Decides.{nat_tests}
use Rattle.list_facts.proofs.Bools.{or_true, or_false}
use Rattle.chart_term.specs.TermPatterns.{some_list, instances_of}
use Rattle.chart_term.specs.Terms.{TermEvent, hits, has, has_some}
use Rattle.chart_term.proofs.Instances.{has_self}

abbrev pub is_at : TermEvent → ℕ → Bool
is_at e i = has (instances_of e).instances i

pub meets_at : (e d : TermEvent) → hits (instances_of d) e ≡ true → (i : ℕ) × (is_at e i ≡ true) × (is_at d i ≡ true)
meets_at e d h = by_at (is_at d e.at) refl
  where
    by_also : (o : Option ℕ) → (has_some (instances_of d).instances o || false) ≡ true → (i : ℕ) × (has (e.at ∷ some_list o) i ≡ true) × (is_at d i ≡ true)
    by_also None h = cc
    by_also (Some n) h = (n, grind (arith, nat_tests), sym (or_false (is_at d n)) ∙ h)

    by_at : (t : Bool) → is_at d e.at ≡ t → (i : ℕ) × (is_at e i ≡ true) × (is_at d i ≡ true)
    by_at true p = (e.at, has_self e.at (some_list e.also), p)
    by_at false p = by_also e.also (rw p at h)

pub at_meets : (e d : TermEvent) (i : ℕ) → is_at e i ≡ true → is_at d i ≡ true → hits (instances_of d) e ≡ true
at_meets e d i h k = go (e.at == i) refl e.also h
  where
    moved : (a : ℕ) → (a == i) ≡ true → is_at d a ≡ true
    moved a p = ap (is_at d) (is_same a i p) ∙ k
      where
        is_same : (m n : ℕ) → (m == n) ≡ true → m ≡ n
        is_same m n h = grind (arith, nat_tests)

    first : (a b : Bool) → a ≡ true → ((a || b) || false) ≡ true
    first true b h = refl
    first false b h = cc

    second : (a b : Bool) → b ≡ true → ((a || b) || false) ≡ true
    second a true h = or_false (a || true) ∙ or_true a
    second a false h = cc

    go : (t : Bool) → (e.at == i) ≡ t → (o : Option ℕ) → has (e.at ∷ some_list o) i ≡ true → ((is_at d e.at || has_some (instances_of d).instances o) || false) ≡ true
    go true p o h = first (is_at d e.at) (has_some (instances_of d).instances o) (moved e.at p)
    go false p None h = elim (or_cases (e.at == i) false h) [ inl q ↦ cc | inr q ↦ cc ]
    go false p (Some n) h = second (is_at d e.at) (is_at d n) (moved n (other h))
      where
        other : ((e.at == i) || ((n == i) || false)) ≡ true → (n == i) ≡ true
        other h = grind (arith, nat_tests)
