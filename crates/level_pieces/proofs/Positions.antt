-- Where a test passes first.
use Rattle.std.proofs.Common.{◌≡◌, ℕ, ◌<◌, ◌≤◌, ◌+◌, List, [], ◌∷◌, ◌++◌, Some, None, slice_get, length, map, Bool, true, false, not, suc, arith, refl, sym, ap, ap₂, ◌∙◌, subst, nat_lt, if◌then◌else◌, cond, ◌||◌, length-append}
use Rattle.std.specs.List.{position, position_or_len, list_any}
use Rattle.std.proofs.lemmas.List.{length-map}
use Rattle.std.proofs.lemmas.Bool.{lt-ltb, ltb-true}
use Rattle.std.proofs.lemmas.Option.{cond_some}

module _ {V W : Type 0} (f : V → W) where
  prefix_map : (p : W → Bool) (q : V → Bool) → ((x : V) → p (f x) ≡ q x) → (xs : List V) → position_or_len p (map f xs) ≡ position_or_len q xs
  prefix_map p q same [] = refl
  prefix_map p q same (x ∷ xs) = ap₂ (λ (b : Bool) (n : ℕ). cond (not b) (1 + n) 0) (same x) (prefix_map p q same xs)

  pub position_map : (p : W → Bool) (q : V → Bool) → ((x : V) → p (f x) ≡ q x) → (xs : List V) → position p (map f xs) ≡ position q xs
  position_map p q same xs = ap₂ (λ (n m : ℕ). cond (nat_lt n m) (Some n) None) (prefix_map p q same xs) (length-map xs f)

module _ {X : Type 0} (p : X → Bool) where
  pub first_low : (xs : List X) → position_or_len p xs ≤ length xs
  first_low [] = omega arith
  first_low (x ∷ xs) = cond_low (not (p x)) (first_low xs)
    where
      cond_low : (b : Bool) → position_or_len p xs ≤ length xs → cond b (1 + position_or_len p xs) 0 ≤ length (x ∷ xs)
      cond_low true h = omega arith
      cond_low false h = omega arith

  first_kept : (xs : List X) (y : X) → p y ≡ true → position_or_len p (xs ++ y ∷ []) ≡ position_or_len p xs
  first_kept [] y passes = ap (λ (b : Bool). cond (not b) (1 + 0) 0) passes
  first_kept (x ∷ xs) y passes = ap (λ (n : ℕ). cond (not (p x)) (1 + n) 0) (first_kept xs y passes)

  first_there : (xs : List X) → list_any p xs ≡ true → position_or_len p xs < length xs
  first_there [] h = cc
  first_there (x ∷ xs) h = by (p x) h (first_there xs)
    where
      by : (b : Bool) → (b || list_any p xs) ≡ true → (list_any p xs ≡ true → position_or_len p xs < length xs) → cond (not b) (1 + position_or_len p xs) 0 < length (x ∷ xs)
      by true h f = omega arith
      by false h f = omega (arith, f h)

  first_is : (xs : List X) → position_or_len p xs < length xs → position p xs ≡ Some (position_or_len p xs)
  first_is xs lt = ap (λ (b : Bool). cond b (Some (position_or_len p xs)) None) (lt-ltb (position_or_len p xs) (length xs) lt)

  -- where an element stands that was put in where no element passed
  pub position_inserted : (xs : List X) (y : X) (class : ℕ) (after : List X) → p y ≡ true → class ≡ position_or_len p xs
      → after ≡ (if list_any p xs then xs else xs ++ y ∷ []) → position p after ≡ Some class
  position_inserted xs y class after passes index keys =
      subst (λ (ys : List X). position p ys ≡ Some class) (sym keys) (by (list_any p xs) refl)
    where
      long : position_or_len p (xs ++ y ∷ []) < length (xs ++ y ∷ [])
      long = omega (arith, first_kept xs y passes, first_low xs, length-append xs (y ∷ []))

      by : (b : Bool) → list_any p xs ≡ b → position p (if b then xs else xs ++ y ∷ []) ≡ Some class
      by true e = first_is xs (first_there xs e) ∙ ap (λ (n : ℕ). Some n) (sym index)
      by false e = first_is (xs ++ y ∷ []) long ∙ ap (λ (n : ℕ). Some n) (first_kept xs y passes ∙ sym index)

  first_passes : (xs : List X) → position_or_len p xs < length xs → (x : X) × (slice_get xs (position_or_len p xs) ≡ Some x) × (p x ≡ true)
  first_passes [] lt = absurd (omega arith)
  first_passes (x ∷ xs) lt = by (p x) refl lt (first_passes xs)
    where
      by : (b : Bool) → p x ≡ b → cond (not b) (1 + position_or_len p xs) 0 < length (x ∷ xs)
          → (position_or_len p xs < length xs → (y : X) × (slice_get xs (position_or_len p xs) ≡ Some y) × (p y ≡ true))
          → (y : X) × (slice_get (x ∷ xs) (cond (not b) (1 + position_or_len p xs) 0) ≡ Some y) × (p y ≡ true)
      by true e h f = (x, refl, e)
      by false e h f =
          let r = f (omega (arith, h)) in
          let place : suc (position_or_len p xs) ≡ 1 + position_or_len p xs = omega arith in
          (r.0, subst (λ (n : ℕ). slice_get (x ∷ xs) n ≡ Some r.0) place r.1, r.2)

  -- what stands at a position passes
  pub position_passes : (xs : List X) (n : ℕ) → position p xs ≡ Some n → (x : X) × (slice_get xs n ≡ Some x) × (p x ≡ true)
  position_passes xs n h =
      let parts = cond_some (nat_lt (position_or_len p xs) (length xs)) (position_or_len p xs) n h in
      let r = first_passes xs (ltb-true (position_or_len p xs) (length xs) parts.0) in
      (r.0, subst (λ (k : ℕ). slice_get xs k ≡ Some r.0) parts.1 r.1, r.2)
