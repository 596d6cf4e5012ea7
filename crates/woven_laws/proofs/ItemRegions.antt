-- The items of a level have no number in common, and the parts of each are placed.
use Rattle.std.proofs.Common.{◌≡◌, ℕ, zero, suc, ◌≤◌, ◌<◌, ◌+◌, ◌⊎◌, inl, inr, Bool, true, false, List, [], ◌∷◌, ◌++◌, Some, slice_get, if◌then◌else◌, refl, sym, subst, ap, arith}
use Rattle.msc_meaning.specs.LevelItems.{is_item, is_part_of, level_items, with_piece, with_pieces}
use Rattle.msc_meaning.specs.Pieces.{Piece, form_count}
use Rattle.level_pieces.proofs.NumberedPieces.{ArePlaced, placed_later, placed_on}
use Rattle.woven_laws.proofs.Regions.{Has, IsIn, has_between, has_on}

-- one of the items has the number
abbrev pub HasOne : ℕ → List (List Piece) → Type 0
HasOne k [] = ⊥
HasOne k (x ∷ xs) = Has k x ⊎ HasOne k xs

-- each item's parts are placed below n
abbrev AreBelow : ℕ → List (List Piece) → Type 0
AreBelow n [] = Unit {0}
AreBelow n (x ∷ xs) = ArePlaced 0 n x × AreBelow n xs

-- no two have a number in common
abbrev AreApart : List (List Piece) → Type 0
AreApart [] = Unit {0}
AreApart (x ∷ xs) = ((k : ℕ) → Has k x → HasOne k xs → ⊥) × AreApart xs

one_below : (k n : ℕ) (xs : List (List Piece)) → AreBelow n xs → HasOne k xs → k < n
one_below k n [] w h = absurd h
one_below k n (x ∷ xs) w (inl h) = (has_between k 0 n x w.0 h).1
one_below k n (x ∷ xs) w (inr h) = one_below k n xs w.1 h

below_later : (n m : ℕ) (xs : List (List Piece)) → n ≤ m → AreBelow n xs → AreBelow m xs
below_later n m [] le w = tt
below_later n m (x ∷ xs) le w = (placed_later 0 n m x le w.0, below_later n m xs le w.1)

module _ (n : ℕ) (p : Piece) (behind : n ≤ p.first) where
  abbrev end : ℕ
  end = p.first + form_count p.form

  alone : ArePlaced n end (p ∷ [])
  alone = (behind, omega arith)

  has_last : (k : ℕ) (x : List Piece) → Has k (x ++ p ∷ []) → Has k x ⊎ IsIn k p
  has_last k x h = elim (has_on k x (p ∷ []) h) [ inl i ↦ inl i | inr i ↦ elim i [ inl j ↦ inr j | inr j ↦ absurd j ] ]

  with_below : (xs : List (List Piece)) → AreBelow n xs → AreBelow end (with_piece xs p)
  with_below [] w = ((omega arith, omega arith), tt)
  with_below (x ∷ xs) w = by (is_part_of p x) (with_below xs w.1)
    where
      by : (b : Bool) → AreBelow end (with_piece xs p) → AreBelow end (if b then (x ++ p ∷ []) ∷ xs else x ∷ with_piece xs p)
      by true rest = (placed_on 0 n end x (p ∷ []) w.0 alone, below_later n end xs (omega (arith, behind)) w.1)
      by false rest = (placed_later 0 n end x (omega (arith, behind)) w.0, rest)

  with_one : (k : ℕ) (xs : List (List Piece)) → HasOne k (with_piece xs p) → HasOne k xs ⊎ IsIn k p
  with_one k [] (inl (inl h)) = inr h
  with_one k [] (inl (inr h)) = absurd h
  with_one k [] (inr h) = absurd h
  with_one k (x ∷ xs) h = by (is_part_of p x) h (with_one k xs)
    where
      by : (b : Bool) → HasOne k (if b then (x ++ p ∷ []) ∷ xs else x ∷ with_piece xs p) → (HasOne k (with_piece xs p) → HasOne k xs ⊎ IsIn k p) → HasOne k (x ∷ xs) ⊎ IsIn k p
      by true (inl g) rest = elim (has_last k x g) [ inl i ↦ inl (inl i) | inr i ↦ inr i ]
      by true (inr g) rest = inl (inr g)
      by false (inl g) rest = inl (inl g)
      by false (inr g) rest = elim (rest g) [ inl i ↦ inl (inr i) | inr i ↦ inr i ]

  with_apart : (xs : List (List Piece)) → AreBelow n xs → AreApart xs → AreApart (with_piece xs p)
  with_apart [] w a = ((λ k h g. g), tt)
  with_apart (x ∷ xs) w a = by (is_part_of p x) (with_apart xs w.1 a.1)
    where
      by : (b : Bool) → AreApart (with_piece xs p) → AreApart (if b then (x ++ p ∷ []) ∷ xs else x ∷ with_piece xs p)
      by true rest = (
        (λ k h g. elim (has_last k x h) [ inl i ↦ a.0 k i g | inr i ↦ let low = one_below k n xs w.1 g in absurd (omega (arith, low, behind, i.0)) ]),
        a.1,
      )
      by false rest = (
        (λ k h g. elim (with_one k xs g) [ inl i ↦ a.0 k h i | inr i ↦ let low = (has_between k 0 n x w.0 h).1 in absurd (omega (arith, low, behind, i.0)) ]),
        rest,
      )

record AreSeparate (m : ℕ) (ps : List Piece) (before xs : List (List Piece)) : Type 0 where
  below : AreBelow m xs
  apart : AreApart xs
  within : (k : ℕ) → HasOne k xs → HasOne k before ⊎ Has k ps

separate : (n m : ℕ) (xs : List (List Piece)) (ps : List Piece) → AreBelow n xs → AreApart xs → ArePlaced n m ps → AreSeparate m ps xs (with_pieces xs ps)
separate n m xs [] w a h = record { below = below_later n m xs h w; apart = a; within = λ k g. inl g }
separate n m xs (p ∷ ps) w a h = by (is_item p.form) (separate (p.first + form_count p.form) m (with_piece xs p) ps (with_below n p h.0 xs w) (with_apart n p h.0 xs w a) h.1) (separate (p.first + form_count p.form) m xs ps (below_later n (p.first + form_count p.form) xs (omega (arith, h.0)) w) a h.1)
  where
    by : (b : Bool) → AreSeparate m ps (with_piece xs p) (with_pieces (with_piece xs p) ps) → AreSeparate m ps xs (with_pieces xs ps) → AreSeparate m (p ∷ ps) xs (with_pieces (if b then with_piece xs p else xs) ps)
    by true s t = record {
      below = s.below;
      apart = s.apart;
      within = λ k g. elim (s.within k g) [ inl i ↦ elim (with_one n p h.0 k xs i) [ inl j ↦ inl j | inr j ↦ inr (inl j) ] | inr i ↦ inr (inr i) ];
    }
    by false s t = record { below = t.below; apart = t.apart; within = λ k g. elim (t.within k g) [ inl i ↦ inl i | inr i ↦ inr (inr i) ] }

-- ---- items by their numbers

one_at : (k i : ℕ) (xs : List (List Piece)) (x : List Piece) → slice_get xs i ≡ Some x → Has k x → HasOne k xs
one_at k i [] x e h = cc
one_at k zero (y ∷ xs) x e h = let same : y ≡ x = cc in inl (subst (Has k) (sym same) h)
one_at k (suc i) (y ∷ xs) x e h = inr (one_at k i xs x e h)

apart_at : (k i j : ℕ) (xs : List (List Piece)) (x y : List Piece) → AreApart xs → slice_get xs i ≡ Some x → slice_get xs j ≡ Some y → Has k x → Has k y → i ≡ j
apart_at k i j [] x y a e f h g = cc
apart_at k zero zero (z ∷ xs) x y a e f h g = refl
apart_at k zero (suc j) (z ∷ xs) x y a e f h g = let same : z ≡ x = cc in absurd (a.0 k (subst (Has k) (sym same) h) (one_at k j xs y f g))
apart_at k (suc i) zero (z ∷ xs) x y a e f h g = let same : z ≡ y = cc in absurd (a.0 k (subst (Has k) (sym same) g) (one_at k i xs x e h))
apart_at k (suc i) (suc j) (z ∷ xs) x y a e f h g = ap suc (apart_at k i j xs x y a.1 e f h g)

below_at : (m i : ℕ) (xs : List (List Piece)) (x : List Piece) → AreBelow m xs → slice_get xs i ≡ Some x → ArePlaced 0 m x
below_at m i [] x w e = cc
below_at m zero (y ∷ xs) x w e = let same : y ≡ x = cc in subst (ArePlaced 0 m) same w.0
below_at m (suc i) (y ∷ xs) x w e = below_at m i xs x w.1 e

-- what is known of the items of a level
pub record AreLevelItems (m : ℕ) (ps : List Piece) (all : List (List Piece)) : Type 0 where
  pub placed : (i : ℕ) (x : List Piece) → slice_get all i ≡ Some x → ArePlaced 0 m x
  pub apart : (k i j : ℕ) (x y : List Piece) → slice_get all i ≡ Some x → slice_get all j ≡ Some y → Has k x → Has k y → i ≡ j
  pub within : (k i : ℕ) (x : List Piece) → slice_get all i ≡ Some x → Has k x → Has k ps

pub items_of_level : (n m : ℕ) (ps : List Piece) → ArePlaced n m ps → AreLevelItems m ps (level_items ps)
items_of_level n m ps h =
    let s = separate n m [] ps tt tt h in record {
      placed = λ i x e. below_at m i (level_items ps) x s.below e;
      apart = λ k i j x y e f a b. apart_at k i j (level_items ps) x y s.apart e f a b;
      within = λ k i x e a. elim (s.within k (one_at k i (level_items ps) x e a)) [ inl g ↦ absurd g | inr g ↦ g ];
    }
