-- Stuck exactly where there is no order at all.
use Rattle.std.proofs.Common.{◌≡◌, ℕ, ◌<◌, ◌≤◌, ◌⊎◌, inl, inr, List, [], ◌∷◌, Some, take, zero, suc, arith, ap, sym}
use Rattle.std.proofs.lemmas.Bool.{cases_eq, cases_lt}
use Rattle.msc_base.specs.Lists.{IsAmong}
use Rattle.column_order.specs.Orders.{IsAt, IsWhole, IsStuckAt}
use Rattle.column_order.proofs.Ranks.{all_in}

-- an arrangement of the first n items, each once, that keeps the relation
pub record IsOrder (n : ℕ) (precedes : ℕ → ℕ → Type 0) (order : List ℕ) : Type 0 where
  pub inside : (i x : ℕ) → IsAt order i x → x < n
  pub every : (x : ℕ) → x < n → (i : ℕ) × IsAt order i x
  pub once : (i j x : ℕ) → IsAt order i x → IsAt order j x → i ≡ j
  pub kept : (i j y x : ℕ) → IsAt order i y → IsAt order j x → precedes y x → i < j

has_at : (xs : List ℕ) (x : ℕ) → IsAmong xs x → (i : ℕ) × IsAt xs i x
has_at [] x h = absurd h
has_at (y ∷ ys) x (inl e) = (0, ap (λ (z : ℕ). Some z) (sym e))
has_at (y ∷ ys) x (inr h) = let t = has_at ys x h in (suc t.0, t.1)

taken_at : (k : ℕ) (xs : List ℕ) (x : ℕ) → IsAmong (take k xs) x → (i : ℕ) × (i < k) × IsAt xs i x
taken_at zero xs x h = absurd h
taken_at (suc k) [] x h = absurd h
taken_at (suc k) (y ∷ ys) x (inl e) = (0, omega arith, ap (λ (z : ℕ). Some z) (sym e))
taken_at (suc k) (y ∷ ys) x (inr h) = let t = taken_at k ys x h in (suc t.0, omega (arith, t.1), t.2)

at_taken : (k : ℕ) (xs : List ℕ) (i x : ℕ) → IsAt xs i x → i < k → IsAmong (take k xs) x
at_taken zero xs i x at lt = absurd (omega arith)
at_taken (suc k) [] i x at lt = cc
at_taken (suc k) (y ∷ ys) zero x at lt = let e : x ≡ y = cc in inl e
at_taken (suc k) (y ∷ ys) (suc i) x at lt = inr (at_taken k ys i x at (omega arith))

module _ (n : ℕ) (precedes : ℕ → ℕ → Type 0) (within : (y x : ℕ) → precedes y x → (y < n) × (x < n)) where
  pub whole_order : (order : List ℕ) → IsWhole n precedes order → IsOrder n precedes order
  whole_order order w = record { inside = λ i x at. (w.earliest i x at).due.inside; every = λ x lt. has_at order x (w.every x lt); once = same; kept = before }
    where
      not_after : (i j x : ℕ) → IsAt order i x → IsAt order j x → i < j → ⊥
      not_after i j x a b lt = (w.earliest j x b).due.remains (at_taken j order i x a lt)

      same : (i j x : ℕ) → IsAt order i x → IsAt order j x → i ≡ j
      same i j x a b = elim (cases_lt i j) [ inl lt ↦ absurd (not_after i j x a b lt) | inr ge ↦ elim (cases_eq i j) [ inl e ↦ e | inr ne ↦ absurd (not_after j i x b a (omega arith)) ] ]

      before : (i j y x : ℕ) → IsAt order i y → IsAt order j x → precedes y x → i < j
      before i j y x a b p =
          let t = taken_at j order y ((w.earliest j x b).due.ready y p) in
          let e : i ≡ t.0 = same i t.0 y a t.2 in
          omega (arith, e, t.1)

  pub stuck_no_order : (x : ℕ) → IsStuckAt n precedes x → (order : List ℕ) → IsOrder n precedes order → ⊥
  stuck_no_order x s order o = s.remains (all_in n precedes s.prefix rank (λ y z p. (within y z p).0) rises s.stuck (suc (rank x)) x (omega arith) s.inside)
    where
      pick : (y : ℕ) → (y < n) ⊎ (n ≤ y) → ℕ
      pick y (inl lt) = (o.every y lt).0
      pick y (inr ge) = 0

      rank : ℕ → ℕ
      rank y = pick y (cases_lt y n)

      rises : (y z : ℕ) → precedes y z → rank y < rank z
      rises y z p = go (cases_lt y n) (cases_lt z n)
        where
          go : (a : (y < n) ⊎ (n ≤ y)) (b : (z < n) ⊎ (n ≤ z)) → pick y a < pick z b
          go (inl a) (inl b) = o.kept (o.every y a).0 (o.every z b).0 y z (o.every y a).1 (o.every z b).1 p
          go (inr a) b = absurd (omega (arith, (within y z p).0))
          go (inl a) (inr b) = absurd (omega (arith, (within y z p).1))
