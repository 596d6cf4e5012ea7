-- Whatever pieces count by their forms, the items of a level together count no more.
use Rattle.std.proofs.Common.{◌≡◌, ℕ, ◌≤◌, ◌+◌, Bool, true, false, cond, List, [], ◌∷◌, ◌++◌, map, refl, arith}
use Rattle.msc_tree.specs.Statements.{Form}
use Rattle.msc_meaning.specs.LevelItems.{is_item, is_part_of, level_items, with_piece, with_pieces}
use Rattle.msc_meaning.specs.Pieces.{Piece}
use Rattle.woven_laws.proofs.OrderSums.{sum}

module _ (count : Form → ℕ) where
  abbrev pub pieces_sum : List Piece → ℕ
  pieces_sum [] = 0
  pieces_sum (p ∷ ps) = count p.form + pieces_sum ps

  pub sum_on : (ps qs : List Piece) → pieces_sum (ps ++ qs) ≡ pieces_sum ps + pieces_sum qs
  sum_on [] qs = omega arith
  sum_on (p ∷ ps) qs = omega (arith, sum_on ps qs)

  abbrev pub lists_sum : List (List Piece) → ℕ
  lists_sum [] = 0
  lists_sum (x ∷ xs) = pieces_sum x + lists_sum xs

  pub lists_are : (xs : List (List Piece)) → sum (map pieces_sum xs) ≡ lists_sum xs
  lists_are [] = refl
  lists_are (ps ∷ xs) = omega (arith, lists_are xs)

  with_sum : (xs : List (List Piece)) (p : Piece) → lists_sum (with_piece xs p) ≡ lists_sum xs + count p.form
  with_sum [] p = omega arith
  with_sum (x ∷ xs) p = by (is_part_of p x) (with_sum xs p)
    where
      by : (b : Bool) → lists_sum (with_piece xs p) ≡ lists_sum xs + count p.form → lists_sum (cond b ((x ++ p ∷ []) ∷ xs) (x ∷ with_piece xs p)) ≡ pieces_sum x + lists_sum xs + count p.form
      by true rest = let on : pieces_sum (x ++ p ∷ []) ≡ pieces_sum x + pieces_sum (p ∷ []) = sum_on x (p ∷ []) in omega (arith, on)
      by false rest = omega (arith, rest)

  from_sum : (xs : List (List Piece)) (ps : List Piece) → lists_sum (with_pieces xs ps) ≤ lists_sum xs + pieces_sum ps
  from_sum xs [] = omega arith
  from_sum xs (p ∷ ps) = by (is_item p.form) (from_sum (with_piece xs p) ps) (from_sum xs ps)
    where
      by : (b : Bool) → lists_sum (with_pieces (with_piece xs p) ps) ≤ lists_sum (with_piece xs p) + pieces_sum ps → lists_sum (with_pieces xs ps) ≤ lists_sum xs + pieces_sum ps
          → lists_sum (with_pieces (cond b (with_piece xs p) xs) ps) ≤ lists_sum xs + (count p.form + pieces_sum ps)
      by true one other = omega (arith, one, with_sum xs p)
      by false one other = omega (arith, other)

  pub items_low : (ps : List Piece) → lists_sum (level_items ps) ≤ pieces_sum ps
  items_low ps = let low : lists_sum (with_pieces [] ps) ≤ 0 + pieces_sum ps = from_sum [] ps in omega (arith, low)
