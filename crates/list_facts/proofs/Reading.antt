-- What stands at an index of a list, and what stands from it on.
use Rattle.std.proofs.Common.{◌≡◌, ◌<◌, ◌≤◌, ◌+◌, ◌-◌, ℕ, zero, suc, List, [], ◌∷◌, ◌++◌, Some, drop, get_or, length, slice_get, take, refl, sym, ap, ◌∙◌, arith}
use Rattle.std.proofs.Math.Seq.{drop-cons}

module _ {A : Type 0} where
  -- each index below the length has an item
  pub some_at : (xs : List A) (i : ℕ) → i < length xs → (x : A) × (slice_get xs i ≡ Some x)
  some_at [] i low = absurd (omega arith)
  some_at (x ∷ xs) zero low = (x, refl)
  some_at (x ∷ xs) (suc i) low = some_at xs i (omega (arith, low))

  -- what stands at an index stays there as the list grows
  pub get_left : (xs ys : List A) (i : ℕ) (x : A) → slice_get xs i ≡ Some x → slice_get (xs ++ ys) i ≡ Some x
  get_left [] ys i x at = cc
  get_left (y ∷ xs) ys zero x at = at
  get_left (y ∷ xs) ys (suc i) x at = get_left xs ys i x at

  -- the first item of the second of two lists in a row
  pub get_behind : (xs : List A) (y : A) (ys : List A) → slice_get (xs ++ y ∷ ys) (length xs) ≡ Some y
  get_behind [] y ys = refl
  get_behind (x ∷ xs) y ys = get_behind xs y ys

  -- a list from an index on, which has an item
  pub drop_suc : (xs : List A) (i : ℕ) (x : A) → slice_get xs i ≡ Some x → drop i xs ≡ x ∷ drop (suc i) xs
  drop_suc [] i x at = cc
  drop_suc (y ∷ xs) zero x at = let e : y ≡ x = cc in ap (λ z. z ∷ xs) e
  drop_suc (y ∷ xs) (suc i) x at = drop_suc xs i x at

  pub drop_get : (xs : List A) (i : ℕ) (x : A) → slice_get xs i ≡ Some x → drop i xs ≡ x ∷ drop (i + 1) xs
  drop_get xs i x at = let n : suc i ≡ i + 1 = omega arith in drop_suc xs i x at ∙ ap (λ (m : ℕ). x ∷ drop m xs) n

  -- the same of an item that was read by its index
  pub drop_read : (xs : List A) (i : ℕ) (x : A) → i < length xs → x ≡ get_or xs i x → drop i xs ≡ x ∷ drop (i + 1) xs
  drop_read xs i x low is =
      let n : suc i ≡ i + 1 = omega arith in
      drop-cons xs i x low ∙ ap (λ y. y ∷ drop (suc i) xs) (sym is) ∙ ap (λ (m : ℕ). x ∷ drop m xs) n

  -- a list from its end on
  pub drop_end : (xs : List A) (i : ℕ) → (i < length xs → ⊥) → drop i xs ≡ []
  drop_end [] zero high = refl
  drop_end [] (suc i) high = refl
  drop_end (x ∷ xs) zero high = absurd (high (omega arith))
  drop_end (x ∷ xs) (suc i) high = drop_end xs i (λ l. high (omega arith))

  -- the first items, with the one behind them
  pub take_step : (xs : List A) (i : ℕ) (x : A) → slice_get xs i ≡ Some x → take (i + 1) xs ≡ take i xs ++ x ∷ []
  take_step xs i x at = let n : i + 1 ≡ suc i = omega arith in ap (λ (m : ℕ). take m xs) n ∙ by xs i at
    where
      by : (ys : List A) (k : ℕ) → slice_get ys k ≡ Some x → take (suc k) ys ≡ take k ys ++ x ∷ []
      by [] k at = cc
      by (y ∷ ys) zero at = let e : y ≡ x = cc in ap (λ z. z ∷ []) e
      by (y ∷ ys) (suc k) at = ap (λ l. y ∷ l) (by ys k at)

  -- the first items of two lists in a row, if they reach into the second
  pub take_over : (xs ys : List A) (n : ℕ) → length xs ≤ n → take n (xs ++ ys) ≡ xs ++ take (n - length xs) ys
  take_over [] ys n low = let e : n ≡ n - 0 = omega arith in ap (λ (m : ℕ). take m ys) e
  take_over (x ∷ xs) ys zero low = absurd (omega arith)
  take_over (x ∷ xs) ys (suc n) low = let e : suc n - suc (length xs) ≡ n - length xs = omega arith in
      ap (λ l. x ∷ l) (take_over xs ys n (omega (arith, low))) ∙ sym (ap (λ (m : ℕ). x ∷ (xs ++ take m ys)) e)
