-- Patterns in which numbers rise: of towers of choices, each below a tie.
use Rattle.std.specs.Prelude.{ℕ, ◌+◌, ◌<◌, ◌≤◌, ◌==◌, ◌≡◌, ◌⊎◌, Bool, true, false, List, refl}
use Rattle.std.proofs.Common.{inl, inr, arith}
use Rattle.std.proofs.lemmas.Bool.{cases_lt}
use Rattle.std.proofs.lemmas.Bool.Decides.{nat_tests}
use Rattle.msc_base.specs.Patterns.{seq, empty, one, join, bind, Position, Before, event_at}
use Rattle.chart_term.specs.TermPatterns.{Shape, numbered, pairs}
use Rattle.term_laws.specs.FullSoundness.{times}
use Rattle.term_laws.proofs.Times.{one_or_none}
use Rattle.term_bench.specs.Charts.{event}

-- a pair's first event has the lower number; each number stands once at most, and none from hi on
pub record IsRising (hi : ℕ) (s : Shape) : Type 0 where
  pub rises : (i j : Position s) → Before numbered s i j → (event_at numbered s i).number < (event_at numbered s j).number
  pub below : (i : Position s) → (event_at numbered s i).number < hi
  pub once : (j : ℕ) → times j s ≤ 1
  pub none : (j : ℕ) → hi ≤ j → times j s ≡ 0

few : (b : Bool) → one_or_none b ≤ 1
few true = omega arith
few false = omega arith

not_there : (n j : ℕ) → (n ≡ j → ⊥) → one_or_none (n == j) ≡ 0
not_there n j d = go (n == j) refl
  where
    go : (b : Bool) → (n == j) ≡ b → one_or_none b ≡ 0
    go true q = absurd (d grind (arith, nat_tests))
    go false q = refl

pub rising_event : (hi n i a : ℕ) → n < hi → IsRising hi (one (event n i a))
rising_event hi n i a l = record {
  rises = λ p q b. absurd b;
  below = λ p. l;
  once = λ j. few (n == j);
  none = λ j h. not_there n j (λ q. omega (arith, l, h, q));
}

-- two events more
abbrev pub Longer : Shape → ℕ → ℕ → ℕ → ℕ → ℕ → Shape
Longer s n i a j b = join seq s (join seq (one (event n i a)) (join seq (one (event (n + 1) j b)) empty))

pub rising_longer : (s : Shape) (n i a j b : ℕ) → IsRising n s → IsRising (n + 2) (Longer s n i a j b)
rising_longer s n i a j b h = record { rises = λ p q c. rises p q c; below = λ p. below p; once = λ k. once k (cases_lt k n); none = λ k l. none k l }
  where
    rises : (p q : Position (Longer s n i a j b)) → Before numbered (Longer s n i a j b) p q → (event_at numbered (Longer s n i a j b) p).number < (event_at numbered (Longer s n i a j b) q).number
    rises (inl p) (inl q) c = h.rises p q c
    rises (inl p) (inr (inl q)) c = h.below p
    rises (inl p) (inr (inr (inl q))) c = omega (arith, h.below p)
    rises (inl p) (inr (inr (inr q))) c = absurd q
    rises (inr p) (inl q) c = absurd c
    rises (inr (inl p)) (inr (inl q)) c = absurd c
    rises (inr (inl p)) (inr (inr (inl q))) c = omega arith
    rises (inr (inl p)) (inr (inr (inr q))) c = absurd q
    rises (inr (inr p)) (inr (inl q)) c = absurd c
    rises (inr (inr (inl p))) (inr (inr (inl q))) c = absurd c
    rises (inr (inr (inl p))) (inr (inr (inr q))) c = absurd q
    rises (inr (inr (inr p))) (inr (inr q)) c = absurd p

    below : (p : Position (Longer s n i a j b)) → (event_at numbered (Longer s n i a j b) p).number < n + 2
    below (inl p) = omega (arith, h.below p)
    below (inr (inl p)) = omega arith
    below (inr (inr (inl p))) = omega arith
    below (inr (inr (inr p))) = absurd p

    once : (k : ℕ) → (k < n) ⊎ (n ≤ k) → times k (Longer s n i a j b) ≤ 1
    once k (inl l) =
        let f = not_there n k (λ q. omega (arith, l, q)) in
        let g = not_there (n + 1) k (λ q. omega (arith, l, q)) in
        omega (arith, h.once k, f, g)
    once k (inr l) = go (n == k) (n + 1 == k) refl refl
      where
        go : (t u : Bool) → (n == k) ≡ t → (n + 1 == k) ≡ u → times k s + (one_or_none t + (one_or_none u + 0)) ≤ 1
        go true true p q = absurd (both grind (arith, nat_tests) grind (arith, nat_tests))
          where
            both : n ≡ k → n + 1 ≡ k → ⊥
            both p q = omega (arith, p, q)
        go true false p q = omega (arith, h.none k l)
        go false true p q = omega (arith, h.none k l)
        go false false p q = omega (arith, h.none k l)

    none : (k : ℕ) → n + 2 ≤ k → times k (Longer s n i a j b) ≡ 0
    none k l =
        let e = h.none k (omega (arith, l)) in
        let f = not_there n k (λ q. omega (arith, l, q)) in
        let g = not_there (n + 1) k (λ q. omega (arith, l, q)) in
        omega (arith, e, f, g)

-- below a tie whose pairs rise
pub rising_tie : (hi : ℕ) (s : Shape) (q : List (ℕ × ℕ)) → ((m n : ℕ) → pairs q m n ≡ true → m < n) → IsRising hi s → IsRising hi (bind s q)
rising_tie hi s q up h = record { rises = λ i j b. rises i j b; below = h.below; once = h.once; none = h.none }
  where
    rises : (i j : Position s) → Before numbered (bind s q) i j → (event_at numbered s i).number < (event_at numbered s j).number
    rises i j (inl b) = h.rises i j b
    rises i j (inr b) = up (event_at numbered s i).number (event_at numbered s j).number b
