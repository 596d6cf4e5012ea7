-- Ranks among the elements that pass a test.
use Rattle.std.proofs.Common.{◌≡◌, ℕ, ◌<◌, ◌+◌, inl, inr, List, [], ◌∷◌, ◌++◌, Some, slice_get, take, Bool, true, zero, suc, arith, refl, sym, ap, ◌∙◌, subst, if◌then◌else◌, zero-add}
use Rattle.std.specs.List.{count_by}
use Rattle.std.proofs.lemmas.List.Sums.{sum_by-append}
use Rattle.std.proofs.lemmas.Bool.{cases_order}

module _ {X : Type 0} (p : X → Bool) where
  pub count_cons : (x : X) (xs : List X) → count_by p (x ∷ xs) ≡ (if p x then 1 else 0) + count_by p xs
  count_cons x xs = sum_by-append (λ y. if p y then 1 else 0) (x ∷ []) xs ∙ ap (λ (n : ℕ). n + count_by p xs) (zero-add (if p x then 1 else 0))

  count_none : (xs : List X) → count_by p (take 0 xs) ≡ 0
  count_none xs = refl

  -- an element that passes raises the count behind it
  pub counted_below : (xs : List X) (q n : ℕ) (m : X) → p m ≡ true → slice_get xs q ≡ Some m → q < n → count_by p (take q xs) < count_by p (take n xs)
  counted_below [] q n m t at lt = cc
  counted_below (x ∷ xs) q zero m t at lt = absurd (omega arith)
  counted_below (x ∷ xs) zero (suc n) m t at lt =
      let is : x ≡ m = cc in
      let passes : p x ≡ true = subst (λ (y : X). p y ≡ true) (sym is) t in
      let one : ◌≡◌ {A = ℕ} (if p x then 1 else 0) 1 = ap (λ (t : Bool). if t then 1 else 0) passes in
      omega (arith, one, count_none (x ∷ xs), count_cons x (take n xs))
  counted_below (x ∷ xs) (suc q) (suc n) m t at lt = omega (arith, counted_below xs q n m t at (omega arith), count_cons x (take q xs), count_cons x (take n xs))

  -- two elements of one rank are one
  pub rank_once : (xs : List X) (a b : ℕ) (m n : X) → p m ≡ true → p n ≡ true → slice_get xs a ≡ Some m → slice_get xs b ≡ Some n
      → count_by p (take a xs) ≡ count_by p (take b xs) → a ≡ b
  rank_once xs a b m n s t at bt e = elim (cases_order a b) [
    | inl is ↦ is
    | inr order ↦ elim order [
      | inl below ↦ absurd (omega (arith, counted_below xs a b m s at below))
      | inr above ↦ absurd (omega (arith, counted_below xs b a n t bt above))
    ]
  ]

  pub count_snoc : (xs : List X) (x : X) → count_by p (xs ++ x ∷ []) ≡ count_by p xs + (if p x then 1 else 0)
  count_snoc xs x = sum_by-append (λ y. if p y then 1 else 0) xs (x ∷ []) ∙ ap (λ (n : ℕ). count_by p xs + n) (omega arith)
