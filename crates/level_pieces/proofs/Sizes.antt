-- How much stands in pieces, at any depth: a measure by which weaving ends.
use Rattle.std.proofs.Common.{◌≡◌, ℕ, ◌≤◌, ◌<◌, ◌+◌, zero, suc, Bool, true, false, cond, List, [], ◌∷◌, ◌++◌, Option, Some, None, drop, slice_get, take, refl, ap, arith}
use Rattle.msc_tree.specs.Statements.{Form, Single, Coregion, Condition, Inline, Refer, Stop, placed, Item, Items, no_items, item_and, Operand, InColumn, Outside, Operands, no_operands, operand_and, Statement, Column, Covered, Heading, Ended, Statements, no_statements, statement_and}
use Rattle.msc_meaning.specs.LevelItems.{is_item, is_part_of, level_items, with_piece, with_pieces}
use Rattle.msc_meaning.specs.Pieces.{Piece, covered, form_count, items_pieces, operand_at, operand_count, operand_of, operand_pieces, operands_of, statement_count, statement_pieces, statements_pieces}
use Rattle.level_pieces.specs.ItemOperands.{operand_lists}

abbrev mutual
  pub form_size : Form → ℕ
  form_size (Inline head held) = suc (operands_size held)
  form_size (Single e) = 1
  form_size (Coregion es) = 1
  form_size (Condition names shared) = 1
  form_size (Refer r) = 1
  form_size Stop = 1

  pub item_size : Item → ℕ
  item_size (placed place form) = form_size form

  pub items_size : Items → ℕ
  items_size no_items = 0
  items_size (item_and x xs) = item_size x + items_size xs

  pub operand_size : Operand → ℕ
  operand_size (InColumn held) = items_size held
  operand_size (Outside held) = statements_size held

  pub operands_size : Operands → ℕ
  operands_size no_operands = 0
  operands_size (operand_and x xs) = operand_size x + operands_size xs

  pub statement_size : Statement → ℕ
  statement_size (Column decl held) = items_size held
  statement_size (Covered cover held) = items_size held
  statement_size (Heading decl) = 0
  statement_size (Ended name) = 0

  pub statements_size : Statements → ℕ
  statements_size no_statements = 0
  statements_size (statement_and x xs) = statement_size x + statements_size xs

abbrev pub pieces_size : List Piece → ℕ
pieces_size [] = 0
pieces_size (p ∷ ps) = form_size p.form + pieces_size ps

-- that of several lists together
abbrev pub lists_size : List (List Piece) → ℕ
lists_size [] = 0
lists_size (x ∷ xs) = pieces_size x + lists_size xs

pub size_on : (ps qs : List Piece) → pieces_size (ps ++ qs) ≡ pieces_size ps + pieces_size qs
size_on [] qs = omega arith
size_on (p ∷ ps) qs = omega (arith, size_on ps qs)

-- ---- operands

items_are : (column : Option (List ℕ)) (leads : List (List ℕ)) (n : ℕ) (xs : Items) → pieces_size (items_pieces column leads n xs) ≡ items_size xs
items_are column leads n no_items = refl
items_are column leads n (item_and (placed place f) xs) = omega (arith, items_are column leads (n + form_count f) xs)

statement_is : (cover : List (List ℕ)) (n : ℕ) (s : Statement) → pieces_size (statement_pieces cover n s) ≡ statement_size s
statement_is cover n (Column decl held) = items_are (Some decl.name) (decl.name ∷ []) n held
statement_is cover n (Covered names held) = items_are None (covered cover names) n held
statement_is cover n (Heading decl) = refl
statement_is cover n (Ended name) = refl

statements_are : (cover : List (List ℕ)) (n : ℕ) (ss : Statements) → pieces_size (statements_pieces cover n ss) ≡ statements_size ss
statements_are cover n no_statements = refl
statements_are cover n (statement_and s ss) =
    omega (arith, size_on (statement_pieces cover n s) (statements_pieces cover (n + statement_count s) ss), statement_is cover n s, statements_are cover (n + statement_count s) ss)

operand_is : (cover : List (List ℕ)) (p : Piece) (n : ℕ) (x : Operand) → pieces_size (operand_pieces cover p n x) ≡ operand_size x
operand_is cover p n (InColumn held) = items_are p.column p.leads n held
operand_is cover p n (Outside held) = statements_are cover n held

-- ---- the operands of an item together

-- that of so many operands of a part, from the k-th on
abbrev at_sizes : List (List ℕ) → Piece → ℕ → Operands → ℕ → ℕ → ℕ
at_sizes cover p n xs k zero = 0
at_sizes cover p n xs k (suc m) = pieces_size (operand_at cover p n k xs) + at_sizes cover p n xs (suc k) m

none_at : (cover : List (List ℕ)) (p : Piece) (n k m : ℕ) → at_sizes cover p n no_operands k m ≡ 0
none_at cover p n k zero = refl
none_at cover p n zero (suc m) = omega (arith, none_at cover p n 1 m)
none_at cover p n (suc k) (suc m) = omega (arith, none_at cover p n (suc (suc k)) m)

later_at : (cover : List (List ℕ)) (p : Piece) (n : ℕ) (x : Operand) (xs : Operands) (k m : ℕ) → at_sizes cover p n (operand_and x xs) (suc k) m ≡ at_sizes cover p (n + operand_count x) xs k m
later_at cover p n x xs k zero = refl
later_at cover p n x xs k (suc m) = ap (λ (s : ℕ). pieces_size (operand_at cover p (n + operand_count x) k xs) + s) (later_at cover p n x xs (suc k) m)

all_at : (cover : List (List ℕ)) (p : Piece) (n : ℕ) (xs : Operands) (k m : ℕ) → at_sizes cover p n xs k m ≤ operands_size xs
all_at cover p n no_operands k m = let z : at_sizes cover p n no_operands k m ≡ 0 = none_at cover p n k m in omega (arith, z)
all_at cover p n (operand_and x xs) k zero = omega arith
all_at cover p n (operand_and x xs) zero (suc m) =
    let rest : at_sizes cover p (n + operand_count x) xs 0 m ≤ operands_size xs = all_at cover p (n + operand_count x) xs 0 m in
    omega (arith, rest, operand_is cover p n x, later_at cover p n x xs 0 m)
all_at cover p n (operand_and x xs) (suc k) (suc m) =
    let rest : at_sizes cover p (n + operand_count x) xs k (suc m) ≤ operands_size xs = all_at cover p (n + operand_count x) xs k (suc m) in
    let moved : at_sizes cover p n (operand_and x xs) (suc k) (suc m) ≡ at_sizes cover p (n + operand_count x) xs k (suc m) = later_at cover p n x xs k (suc m) in
    omega (arith, rest, moved)

abbrev of_sizes : List (List ℕ) → Piece → Form → ℕ → ℕ → ℕ
of_sizes cover p f k zero = 0
of_sizes cover p f k (suc m) = pieces_size (operand_of cover k p f) + of_sizes cover p f (suc k) m

same_sizes : (cover : List (List ℕ)) (p : Piece) (f : Form) (held : Operands) → ((k : ℕ) → operand_of cover k p f ≡ operand_at cover p p.first k held) → (k m : ℕ) → of_sizes cover p f k m ≡ at_sizes cover p p.first held k m
same_sizes cover p f held is k zero = refl
same_sizes cover p f held is k (suc m) = omega (arith, ap pieces_size (is k), same_sizes cover p f held is (suc k) m)

none_of : (cover : List (List ℕ)) (p : Piece) (f : Form) → ((k : ℕ) → operand_of cover k p f ≡ []) → (k m : ℕ) → of_sizes cover p f k m ≡ 0
none_of cover p f is k zero = refl
none_of cover p f is k (suc m) = omega (arith, ap pieces_size (is k), none_of cover p f is (suc k) m)

all_of : (cover : List (List ℕ)) (p : Piece) (f : Form) (k m : ℕ) → of_sizes cover p f k m < form_size f
all_of cover p (Inline head held) k m =
    let same : of_sizes cover p (Inline head held) k m ≡ at_sizes cover p p.first held k m = same_sizes cover p (Inline head held) held (λ j. refl) k m in
    let low : at_sizes cover p p.first held k m ≤ operands_size held = all_at cover p p.first held k m in
    omega (arith, same, low)
all_of cover p (Single e) k m = let z : of_sizes cover p (Single e) k m ≡ 0 = none_of cover p (Single e) (λ j. refl) k m in omega (arith, z)
all_of cover p (Coregion es) k m = let z : of_sizes cover p (Coregion es) k m ≡ 0 = none_of cover p (Coregion es) (λ j. refl) k m in omega (arith, z)
all_of cover p (Condition names shared) k m = let z : of_sizes cover p (Condition names shared) k m ≡ 0 = none_of cover p (Condition names shared) (λ j. refl) k m in omega (arith, z)
all_of cover p (Refer r) k m = let z : of_sizes cover p (Refer r) k m ≡ 0 = none_of cover p (Refer r) (λ j. refl) k m in omega (arith, z)
all_of cover p Stop k m = let z : of_sizes cover p Stop k m ≡ 0 = none_of cover p Stop (λ j. refl) k m in omega (arith, z)

none_lists : (cover : List (List ℕ)) (k m : ℕ) → lists_size (operand_lists cover [] k m) ≡ 0
none_lists cover k zero = refl
none_lists cover k (suc m) = omega (arith, none_lists cover (suc k) m)

split_lists : (cover : List (List ℕ)) (p : Piece) (ps : List Piece) (k m : ℕ) → lists_size (operand_lists cover (p ∷ ps) k m) ≡ of_sizes cover p p.form k m + lists_size (operand_lists cover ps k m)
split_lists cover p ps k zero = refl
split_lists cover p ps k (suc m) =
    let on : pieces_size (operands_of cover k (p ∷ ps)) ≡ pieces_size (operand_of cover k p p.form) + pieces_size (operands_of cover k ps) = size_on (operand_of cover k p p.form) (operands_of cover k ps) in
    omega (arith, on, split_lists cover p ps (suc k) m)

low_lists : (cover : List (List ℕ)) (ps : List Piece) (k m : ℕ) → lists_size (operand_lists cover ps k m) ≤ pieces_size ps
low_lists cover [] k m = let z : lists_size (operand_lists cover [] k m) ≡ 0 = none_lists cover k m in omega (arith, z)
low_lists cover (p ∷ ps) k m =
    let own : of_sizes cover p p.form k m < form_size p.form = all_of cover p p.form k m in
    let rest : lists_size (operand_lists cover ps k m) ≤ pieces_size ps = low_lists cover ps k m in
    omega (arith, split_lists cover p ps k m, own, rest)

-- the operands of an item together are smaller
pub lists_smaller : (cover : List (List ℕ)) (p : Piece) (ps : List Piece) (k m : ℕ) → lists_size (operand_lists cover (p ∷ ps) k m) < pieces_size (p ∷ ps)
lists_smaller cover p ps k m =
    let own : of_sizes cover p p.form k m < form_size p.form = all_of cover p p.form k m in
    let rest : lists_size (operand_lists cover ps k m) ≤ pieces_size ps = low_lists cover ps k m in
    omega (arith, split_lists cover p ps k m, own, rest)

-- ---- items of a level

with_size : (xs : List (List Piece)) (p : Piece) → lists_size (with_piece xs p) ≡ lists_size xs + form_size p.form
with_size [] p = omega arith
with_size (x ∷ xs) p = by (is_part_of p x) (with_size xs p)
  where
    by : (b : Bool) → lists_size (with_piece xs p) ≡ lists_size xs + form_size p.form → lists_size (cond b ((x ++ p ∷ []) ∷ xs) (x ∷ with_piece xs p)) ≡ pieces_size x + lists_size xs + form_size p.form
    by true rest = let on : pieces_size (x ++ p ∷ []) ≡ pieces_size x + pieces_size (p ∷ []) = size_on x (p ∷ []) in omega (arith, on)
    by false rest = omega (arith, rest)

from_size : (xs : List (List Piece)) (ps : List Piece) → lists_size (with_pieces xs ps) ≤ lists_size xs + pieces_size ps
from_size xs [] = omega arith
from_size xs (p ∷ ps) = by (is_item p.form) (from_size (with_piece xs p) ps) (from_size xs ps)
  where
    by : (b : Bool) → lists_size (with_pieces (with_piece xs p) ps) ≤ lists_size (with_piece xs p) + pieces_size ps → lists_size (with_pieces xs ps) ≤ lists_size xs + pieces_size ps
        → lists_size (with_pieces (cond b (with_piece xs p) xs) ps) ≤ lists_size xs + (form_size p.form + pieces_size ps)
    by true one other = omega (arith, one, with_size xs p)
    by false one other = omega (arith, other)

-- the items of a level together are no larger
pub level_size : (ps : List Piece) → lists_size (level_items ps) ≤ pieces_size ps
level_size ps = let low : lists_size (with_pieces [] ps) ≤ 0 + pieces_size ps = from_size [] ps in omega (arith, low)

-- one of several is no larger than all
pub one_size : (xs : List (List Piece)) (x : ℕ) (ps : List Piece) → slice_get xs x ≡ Some ps → pieces_size ps ≤ lists_size xs
one_size [] x ps at = cc
one_size (y ∷ xs) zero ps at = let same : y ≡ ps = cc in omega (arith, ap pieces_size same)
one_size (y ∷ xs) (suc x) ps at = let low : pieces_size ps ≤ lists_size xs = one_size xs x ps at in omega (arith, low)

-- some of several are no larger than all
pub take_size : (n : ℕ) (xs : List (List Piece)) → lists_size (take n xs) ≤ lists_size xs
take_size zero [] = omega arith
take_size (suc n) [] = omega arith
take_size zero (x ∷ xs) = omega arith
take_size (suc n) (x ∷ xs) = omega (arith, take_size n xs)

pub drop_size : (n : ℕ) (xs : List (List Piece)) → lists_size (drop n xs) ≤ lists_size xs
drop_size zero [] = omega arith
drop_size (suc n) [] = omega arith
drop_size zero (x ∷ xs) = omega arith
drop_size (suc n) (x ∷ xs) = omega (arith, drop_size n xs)
