-- Members of lists: of two in a row, of one with an item more, of the first items; lists whose items differ.
use Rattle.std.specs.Prelude.{ℕ, zero, suc, ◌+◌, ◌⊎◌, List, [], ◌∷◌, ◌++◌, ◌≡◌, Some, slice_get, take}
use Rattle.std.proofs.Common.{add-one, refl, sym, ap, ◌∙◌, subst, inl, inr}
use Rattle.msc_base.specs.Lists.{AreDifferent, IsAmong}

module _ {A : Type 0} where
  -- two lists in a row
  pub among_left : (xs ys : List A) (x : A) → IsAmong xs x → IsAmong (xs ++ ys) x
  among_left [] ys x h = absurd h
  among_left (y ∷ xs) ys x (inl e) = inl e
  among_left (y ∷ xs) ys x (inr h) = inr (among_left xs ys x h)

  pub among_right : (xs ys : List A) (x : A) → IsAmong ys x → IsAmong (xs ++ ys) x
  among_right [] ys x h = h
  among_right (y ∷ xs) ys x h = inr (among_right xs ys x h)

  pub among_either : (xs ys : List A) (x : A) → IsAmong (xs ++ ys) x → IsAmong xs x ⊎ IsAmong ys x
  among_either [] ys x h = inr h
  among_either (y ∷ xs) ys x (inl e) = inl (inl e)
  among_either (y ∷ xs) ys x (inr h) = elim (among_either xs ys x h) [ inl l ↦ inl (inr l) | inr r ↦ inr r ]

  -- a list with one item more at its end
  pub among_snoc : (xs : List A) (y x : A) → IsAmong (xs ++ y ∷ []) x → IsAmong xs x ⊎ (x ≡ y)
  among_snoc xs y x h = elim (among_either xs (y ∷ []) x h) [ inl l ↦ inl l | inr r ↦ elim r [ inl e ↦ inr e | inr n ↦ absurd n ] ]

  pub snoc_among : (xs : List A) (y x : A) → IsAmong xs x ⊎ (x ≡ y) → IsAmong (xs ++ y ∷ []) x
  snoc_among xs y x (inl h) = among_left xs (y ∷ []) x h
  snoc_among xs y x (inr e) = among_right xs (y ∷ []) x (inl e)

  pub different_snoc : (xs : List A) (y : A) → AreDifferent xs → (IsAmong xs y → ⊥) → AreDifferent (xs ++ y ∷ [])
  different_snoc [] y d lacks = (λ h. h, tt)
  different_snoc (x ∷ xs) y d lacks = (
    λ h. elim (among_snoc xs y x h) [ inl l ↦ d.0 l | inr e ↦ lacks (inl (sym e)) ],
    different_snoc xs y d.1 (λ h. lacks (inr h)),
  )

  -- what stands at an index
  pub at_among : (xs : List A) (i : ℕ) (x : A) → slice_get xs i ≡ Some x → IsAmong xs x
  at_among [] i x at = cc
  at_among (y ∷ ys) zero x at = inl cc
  at_among (y ∷ ys) (suc i) x at = inr (at_among ys i x at)

  -- what differs from all others stands at one index
  pub one_index : (xs : List A) (i k : ℕ) (x : A) → AreDifferent xs → slice_get xs i ≡ Some x → slice_get xs k ≡ Some x → i ≡ k
  one_index [] i k x d at there = cc
  one_index (y ∷ ys) zero zero x d at there = refl
  one_index (y ∷ ys) zero (suc k) x d at there = let e : x ≡ y = cc in absurd (d.0 (subst (IsAmong ys) e (at_among ys k x there)))
  one_index (y ∷ ys) (suc i) zero x d at there = let e : x ≡ y = cc in absurd (d.0 (subst (IsAmong ys) e (at_among ys i x at)))
  one_index (y ∷ ys) (suc i) (suc k) x d at there = ap suc (one_index ys i k x d.1 at there)

  -- the first items, and one more of them
  suc_among : (xs : List A) (i : ℕ) (x y : A) → slice_get xs i ≡ Some x → IsAmong (take (suc i) xs) y → (y ≡ x) ⊎ IsAmong (take i xs) y
  suc_among [] i x y at h = cc
  suc_among (z ∷ zs) zero x y at (inl e) = let p : z ≡ x = cc in inl (e ∙ p)
  suc_among (z ∷ zs) zero x y at (inr h) = absurd h
  suc_among (z ∷ zs) (suc i) x y at (inl e) = inr (inl e)
  suc_among (z ∷ zs) (suc i) x y at (inr h) = elim (suc_among zs i x y at h) [ inl e ↦ inl e | inr j ↦ inr (inr j) ]

  among_suc : (xs : List A) (i : ℕ) (x y : A) → slice_get xs i ≡ Some x → (y ≡ x) ⊎ IsAmong (take i xs) y → IsAmong (take (suc i) xs) y
  among_suc [] i x y at h = cc
  among_suc (z ∷ zs) zero x y at (inl e) = let p : z ≡ x = cc in inl (e ∙ sym p)
  among_suc (z ∷ zs) zero x y at (inr h) = absurd h
  among_suc (z ∷ zs) (suc i) x y at (inl e) = inr (among_suc zs i x y at (inl e))
  among_suc (z ∷ zs) (suc i) x y at (inr (inl e)) = inl e
  among_suc (z ∷ zs) (suc i) x y at (inr (inr h)) = inr (among_suc zs i x y at (inr h))

  pub take_among : (xs : List A) (i : ℕ) (x y : A) → slice_get xs i ≡ Some x → IsAmong (take (i + 1) xs) y → (y ≡ x) ⊎ IsAmong (take i xs) y
  take_among xs i x y at h = suc_among xs i x y at (subst (λ (n : ℕ). IsAmong (take n xs) y) (add-one i) h)

  pub among_take : (xs : List A) (i : ℕ) (x y : A) → slice_get xs i ≡ Some x → (y ≡ x) ⊎ IsAmong (take i xs) y → IsAmong (take (i + 1) xs) y
  among_take xs i x y at h = subst (λ (n : ℕ). IsAmong (take n xs) y) (sym (add-one i)) (among_suc xs i x y at h)

  pub among_first : (xs : List A) (i : ℕ) (y : A) → IsAmong (take i xs) y → IsAmong xs y
  among_first [] zero y h = absurd h
  among_first [] (suc i) y h = absurd h
  among_first (z ∷ zs) zero y h = absurd h
  among_first (z ∷ zs) (suc i) y (inl e) = inl e
  among_first (z ∷ zs) (suc i) y (inr h) = inr (among_first zs i y h)
