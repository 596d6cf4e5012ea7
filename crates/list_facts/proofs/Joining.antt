-- Lists put together and taken apart.
use Rattle.std.proofs.Common.{◌≡◌, List, [], ◌∷◌, ◌++◌, refl}

module _ {A : Type 0} where
  -- the parts of an empty list are empty
  pub left_nil : (xs ys : List A) → xs ++ ys ≡ [] → xs ≡ []
  left_nil [] ys e = refl
  left_nil (x ∷ xs) ys e = cc

  pub right_nil : (xs ys : List A) → xs ++ ys ≡ [] → ys ≡ []
  right_nil [] ys e = e
  right_nil (x ∷ xs) ys e = cc

  pub both_nil : (xs ys : List A) → xs ≡ [] → ys ≡ [] → xs ++ ys ≡ []
  both_nil xs ys e f = cc

  -- a list with an item isn't empty
  pub not_nil : (xs : List A) (y : A) (ys : List A) → xs ++ y ∷ ys ≡ [] → ⊥
  not_nil [] y ys e = cc
  not_nil (x ∷ xs) y ys e = cc

  -- the first items of equal lists, and what stands behind them
  pub same_head : (x y : A) (xs ys : List A) → x ∷ xs ≡ y ∷ ys → x ≡ y
  same_head x y xs ys e = cc

  pub same_tail : (x y : A) (xs ys : List A) → x ∷ xs ≡ y ∷ ys → xs ≡ ys
  same_tail x y xs ys e = cc
