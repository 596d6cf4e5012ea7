-- What pieces count, as a chart's text does: the operands of an item, and the items of a level, together count no more.
use Rattle.std.proofs.Common.{◌≡◌, ℕ, ◌≤◌, ◌+◌, zero, suc, List, [], ◌∷◌, ◌++◌, Option, Some, None, map, slice_get, refl, ap, arith}
use Rattle.msc_base.specs.Lists.{AreDifferent}
use Rattle.msc_tree.specs.Expressions.{Expression}
use Rattle.msc_tree.specs.Statements.{Form, Single, Coregion, Condition, Inline, Refer, Stop, placed, Items, no_items, item_and, InlineHead, Operand, InColumn, Outside, Operands, no_operands, operand_and, Statement, Column, Covered, Heading, Ended, Statements, no_statements, statement_and}
use Rattle.msc_meaning.specs.LevelItems.{level_items}
use Rattle.msc_meaning.specs.Levels.{operand_number}
use Rattle.msc_meaning.specs.Pieces.{Piece, covered, form_count, items_pieces, operand_at, operand_count, operand_of, operand_pieces, operands_of, statement_count, statement_pieces, statements_pieces}
use Rattle.woven_laws.proofs.OrderSums.{different_sum, mapped_at, number_at, order_sum}
use Rattle.woven_laws.proofs.PieceSums.{items_low, lists_are, lists_sum, pieces_sum, sum_on}
use Rattle.woven_laws.proofs.WalkedSizes.{form_size, items_size, operand_size, operands_size, statement_size, statements_size}

-- what the expression of a reference counts
module _ (count : Expression → ℕ) where
  abbrev pub pieces_size : List Piece → ℕ
  pieces_size ps = pieces_sum (form_size count) ps

  size_on : (ps qs : List Piece) → pieces_size (ps ++ qs) ≡ pieces_size ps + pieces_size qs
  size_on ps qs = sum_on (form_size count) ps qs

  -- ---- pieces of the text

  items_are : (column : Option (List ℕ)) (leads : List (List ℕ)) (n : ℕ) (xs : Items) → pieces_size (items_pieces column leads n xs) ≡ items_size count xs
  items_are column leads n no_items = refl
  items_are column leads n (item_and (placed place f) xs) = omega (arith, items_are column leads (n + form_count f) xs)

  statement_is : (cover : List (List ℕ)) (n : ℕ) (s : Statement) → pieces_size (statement_pieces cover n s) ≡ statement_size count s
  statement_is cover n (Column decl held) = items_are (Some decl.name) (decl.name ∷ []) n held
  statement_is cover n (Covered names held) = items_are None (covered cover names) n held
  statement_is cover n (Heading decl) = refl
  statement_is cover n (Ended name) = refl

  pub statements_are : (cover : List (List ℕ)) (n : ℕ) (ss : Statements) → pieces_size (statements_pieces cover n ss) ≡ statements_size count ss
  statements_are cover n no_statements = refl
  statements_are cover n (statement_and s ss) =
      omega (arith, size_on (statement_pieces cover n s) (statements_pieces cover (n + statement_count s) ss), statement_is cover n s, statements_are cover (n + statement_count s) ss)

  operand_is : (cover : List (List ℕ)) (p : Piece) (n : ℕ) (x : Operand) → pieces_size (operand_pieces cover p n x) ≡ operand_size count x
  operand_is cover p n (InColumn held) = items_are p.column p.leads n held
  operand_is cover p n (Outside held) = statements_are cover n held

  -- ---- the operands of an item together

  -- that of so many operands of the parts, from the k-th on
  abbrev pub parts_size : List (List ℕ) → List Piece → ℕ → ℕ → ℕ
  parts_size cover ps k zero = 0
  parts_size cover ps k (suc m) = pieces_size (operands_of cover k ps) + parts_size cover ps (suc k) m

  -- of one part
  abbrev at_size : List (List ℕ) → Piece → ℕ → Operands → ℕ → ℕ → ℕ
  at_size cover p n xs k zero = 0
  at_size cover p n xs k (suc m) = pieces_size (operand_at cover p n k xs) + at_size cover p n xs (suc k) m

  none_at : (cover : List (List ℕ)) (p : Piece) (n k m : ℕ) → at_size cover p n no_operands k m ≡ 0
  none_at cover p n k zero = refl
  none_at cover p n zero (suc m) = omega (arith, none_at cover p n 1 m)
  none_at cover p n (suc k) (suc m) = omega (arith, none_at cover p n (suc (suc k)) m)

  later_at : (cover : List (List ℕ)) (p : Piece) (n : ℕ) (x : Operand) (xs : Operands) (k m : ℕ) → at_size cover p n (operand_and x xs) (suc k) m ≡ at_size cover p (n + operand_count x) xs k m
  later_at cover p n x xs k zero = refl
  later_at cover p n x xs k (suc m) = ap (λ (s : ℕ). pieces_size (operand_at cover p (n + operand_count x) k xs) + s) (later_at cover p n x xs (suc k) m)

  -- each operand counts 1 besides
  all_at : (cover : List (List ℕ)) (p : Piece) (n : ℕ) (xs : Operands) (k m : ℕ) → operand_number xs + at_size cover p n xs k m ≤ operands_size count xs
  all_at cover p n no_operands k m = omega (arith, none_at cover p n k m)
  all_at cover p n (operand_and x xs) k zero =
      let rest : operand_number xs + 0 ≤ operands_size count xs = all_at cover p (n + operand_count x) xs 0 0 in
      omega (arith, rest)
  all_at cover p n (operand_and x xs) zero (suc m) =
      let rest : operand_number xs + at_size cover p (n + operand_count x) xs 0 m ≤ operands_size count xs = all_at cover p (n + operand_count x) xs 0 m in
      omega (arith, rest, operand_is cover p n x, later_at cover p n x xs 0 m)
  all_at cover p n (operand_and x xs) (suc k) (suc m) =
      let rest : operand_number xs + at_size cover p (n + operand_count x) xs k (suc m) ≤ operands_size count xs = all_at cover p (n + operand_count x) xs k (suc m) in
      let moved : at_size cover p n (operand_and x xs) (suc k) (suc m) ≡ at_size cover p (n + operand_count x) xs k (suc m) = later_at cover p n x xs k (suc m) in
      omega (arith, rest, moved)

  abbrev of_size : List (List ℕ) → Piece → Form → ℕ → ℕ → ℕ
  of_size cover p f k zero = 0
  of_size cover p f k (suc m) = pieces_size (operand_of cover k p f) + of_size cover p f (suc k) m

  same_size : (cover : List (List ℕ)) (p : Piece) (head : InlineHead) (held : Operands) (k m : ℕ) → of_size cover p (Inline head held) k m ≡ at_size cover p p.first held k m
  same_size cover p head held k zero = refl
  same_size cover p head held k (suc m) = omega (arith, same_size cover p head held (suc k) m)

  none_of : (cover : List (List ℕ)) (p : Piece) (f : Form) → ((k : ℕ) → operand_of cover k p f ≡ []) → (k m : ℕ) → of_size cover p f k m ≡ 0
  none_of cover p f is k zero = refl
  none_of cover p f is k (suc m) = omega (arith, ap pieces_size (is k), none_of cover p f is (suc k) m)

  inline_of : (cover : List (List ℕ)) (p : Piece) (head : InlineHead) (held : Operands) (k m : ℕ) → 2 + operand_number held + of_size cover p (Inline head held) k m ≤ form_size count (Inline head held)
  inline_of cover p head held k m =
      let same : of_size cover p (Inline head held) k m ≡ at_size cover p p.first held k m = same_size cover p head held k m in
      let low : operand_number held + at_size cover p p.first held k m ≤ operands_size count held = all_at cover p p.first held k m in
      omega (arith, same, low)

  all_of : (cover : List (List ℕ)) (p : Piece) (f : Form) (k m : ℕ) → of_size cover p f k m ≤ form_size count f
  all_of cover p (Inline head held) k m = let low : 2 + operand_number held + of_size cover p (Inline head held) k m ≤ form_size count (Inline head held) = inline_of cover p head held k m in omega (arith, low)
  all_of cover p (Single e) k m = omega (arith, none_of cover p (Single e) (λ j. refl) k m)
  all_of cover p (Coregion es) k m = omega (arith, none_of cover p (Coregion es) (λ j. refl) k m)
  all_of cover p (Condition names shared) k m = omega (arith, none_of cover p (Condition names shared) (λ j. refl) k m)
  all_of cover p (Refer r) k m = omega (arith, none_of cover p (Refer r) (λ j. refl) k m)
  all_of cover p Stop k m = omega (arith, none_of cover p Stop (λ j. refl) k m)

  none_parts : (cover : List (List ℕ)) (k m : ℕ) → parts_size cover [] k m ≡ 0
  none_parts cover k zero = refl
  none_parts cover k (suc m) = omega (arith, none_parts cover (suc k) m)

  split_parts : (cover : List (List ℕ)) (p : Piece) (ps : List Piece) (k m : ℕ) → parts_size cover (p ∷ ps) k m ≡ of_size cover p p.form k m + parts_size cover ps k m
  split_parts cover p ps k zero = refl
  split_parts cover p ps k (suc m) =
      let on : pieces_size (operands_of cover k (p ∷ ps)) ≡ pieces_size (operand_of cover k p p.form) + pieces_size (operands_of cover k ps) = size_on (operand_of cover k p p.form) (operands_of cover k ps) in
      omega (arith, on, split_parts cover p ps (suc k) m)

  low_parts : (cover : List (List ℕ)) (ps : List Piece) (k m : ℕ) → parts_size cover ps k m ≤ pieces_size ps
  low_parts cover [] k m = omega (arith, none_parts cover k m)
  low_parts cover (p ∷ ps) k m =
      let own : of_size cover p p.form k m ≤ form_size count p.form = all_of cover p p.form k m in
      let rest : parts_size cover ps k m ≤ pieces_size ps = low_parts cover ps k m in
      omega (arith, split_parts cover p ps k m, own, rest)

  -- with the first part's own 2, and 1 for each of its operands
  pub inline_parts : (cover : List (List ℕ)) (p : Piece) (ps : List Piece) (head : InlineHead) (held : Operands) (k m : ℕ) → p.form ≡ Inline head held → 2 + operand_number held + parts_size cover (p ∷ ps) k m ≤ pieces_size (p ∷ ps)
  inline_parts cover p ps head held k m is =
      let low : 2 + operand_number held + of_size cover p (Inline head held) k m ≤ form_size count (Inline head held) = inline_of cover p head held k m in
      let size : form_size count p.form ≡ form_size count (Inline head held) = ap (form_size count) is in
      let own : of_size cover p p.form k m ≡ of_size cover p (Inline head held) k m = ap (λ (f : Form). of_size cover p f k m) is in
      let rest : parts_size cover ps k m ≤ pieces_size ps = low_parts cover ps k m in
      omega (arith, split_parts cover p ps k m, low, size, own, rest)

  -- ---- the items of a level together

  abbrev pub lists_size : List (List Piece) → ℕ
  lists_size xs = lists_sum (form_size count) xs

  pub level_low : (ps : List Piece) → lists_size (level_items ps) ≤ pieces_size ps
  level_low ps = items_low (form_size count) ps

  -- ---- different ones of several lists are together no larger than all

  abbrev pub sizes_at : List (List Piece) → List ℕ → ℕ
  sizes_at xs order = order_sum (map pieces_size xs) order

  pub different_size : (xs : List (List Piece)) (order : List ℕ) → AreDifferent order → sizes_at xs order ≤ lists_size xs
  different_size xs order d = omega (arith, different_sum (map pieces_size xs) order d, lists_are (form_size count) xs)

  pub at_size_is : (xs : List (List Piece)) (x : ℕ) (ps : List Piece) → slice_get xs x ≡ Some ps → number_at (map pieces_size xs) x ≡ pieces_size ps
  at_size_is xs x ps at = mapped_at pieces_size xs x ps at
