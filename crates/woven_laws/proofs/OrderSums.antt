-- Different ones of several numbers are together no more than all.
use Rattle.std.proofs.Common.{◌≡◌, ◌≤◌, ℕ, zero, suc, ◌+◌, inl, inr, List, [], ◌∷◌, Some, map, slice_get, refl, ap, arith}
use Rattle.msc_base.specs.Lists.{AreDifferent, IsAmong}

abbrev pub sum : List ℕ → ℕ
sum [] = 0
sum (n ∷ ns) = n + sum ns

-- the number at that index; nothing behind the end
abbrev pub number_at : List ℕ → ℕ → ℕ
number_at [] x = 0
number_at (n ∷ ns) zero = n
number_at (n ∷ ns) (suc x) = number_at ns x

-- those at these indices together
abbrev pub order_sum : List ℕ → List ℕ → ℕ
order_sum ns [] = 0
order_sum ns (x ∷ order) = number_at ns x + order_sum ns order

-- the numbers, without that one
abbrev emptied : List ℕ → ℕ → List ℕ
emptied [] x = []
emptied (n ∷ ns) zero = 0 ∷ ns
emptied (n ∷ ns) (suc x) = n ∷ emptied ns x

emptied_sum : (ns : List ℕ) (x : ℕ) → number_at ns x + sum (emptied ns x) ≡ sum ns
emptied_sum [] x = refl
emptied_sum (n ∷ ns) zero = omega arith
emptied_sum (n ∷ ns) (suc x) = omega (arith, emptied_sum ns x)

other_number : (ns : List ℕ) (x y : ℕ) → (x ≡ y → ⊥) → number_at (emptied ns x) y ≡ number_at ns y
other_number [] x y d = refl
other_number (n ∷ ns) zero zero d = absurd (d refl)
other_number (n ∷ ns) zero (suc y) d = refl
other_number (n ∷ ns) (suc x) zero d = refl
other_number (n ∷ ns) (suc x) (suc y) d = other_number ns x y (λ e. d (ap suc e))

others_sum : (ns : List ℕ) (x : ℕ) (order : List ℕ) → (IsAmong order x → ⊥) → order_sum (emptied ns x) order ≡ order_sum ns order
others_sum ns x [] d = refl
others_sum ns x (y ∷ order) d = omega (arith, other_number ns x y (λ e. d (inl e)), others_sum ns x order (λ m. d (inr m)))

pub different_sum : (ns order : List ℕ) → AreDifferent order → order_sum ns order ≤ sum ns
different_sum ns [] d = omega arith
different_sum ns (x ∷ order) d = omega (arith, different_sum (emptied ns x) order d.1, others_sum ns x order d.0, emptied_sum ns x)

module _ {A : Type 0} (f : A → ℕ) where
  pub mapped_at : (xs : List A) (i : ℕ) (x : A) → slice_get xs i ≡ Some x → number_at (map f xs) i ≡ f x
  mapped_at [] i x at = cc
  mapped_at (y ∷ ys) zero x at = let same : y ≡ x = cc in ap f same
  mapped_at (y ∷ ys) (suc i) x at = mapped_at ys i x at
