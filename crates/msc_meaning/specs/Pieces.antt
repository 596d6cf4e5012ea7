-- What stands on a level of a basic chart as it is written, with its events numbered. Three numberings are kept apart: the items of a
-- level are numbered in the order of their places, for the weaving; its events have positions in the woven list, for the pairing; and
-- each event has its number in the chart, in the order of the text at any depth.
use Rattle.std.specs.Prelude.{ℕ, zero, suc, ◌+◌, List, [], ◌∷◌, ◌++◌, length, Option, Some, None}
use Rattle.std.specs.List.{flat_map}
use Rattle.msc_base.specs.declared.place.Place.{Place}
use Rattle.msc_tree.specs.declared.chart.Cover.{Cover}
use Rattle.msc_tree.specs.declared.chart.Cover.TheVariants.{All, Listed}
use Rattle.msc_tree.specs.Statements.{Form, Condition, Stop, Items, no_items, item_and, Operand, InColumn, Outside, Operands, no_operands, operand_and, Statement, Column, Covered, Heading, Ended, Statements, no_statements, statement_and, placed}
use Rattle.msc_tree.specs.Statements as tree

-- what stands in a column or behind a colon, on one level
pub record Piece : Type 0 where
  -- the column, where it stands in one
  pub column : Option (List ℕ)
  -- the instances in whose columns it stands
  pub leads : List (List ℕ)
  pub place : Place
  pub form : Form
  -- the number of its first event
  pub first : ℕ

-- ---- how many events there are, at any depth

abbrev mutual
  pub form_count : Form → ℕ
  form_count (tree.Single event) = 1
  form_count (tree.Coregion held) = length held
  form_count (Condition names shared) = 0
  form_count (tree.Inline head operands) = operands_count operands
  form_count (tree.Refer reference) = 0
  form_count Stop = 0

  pub item_count : tree.Item → ℕ
  item_count (placed place form) = form_count form

  pub items_count : Items → ℕ
  items_count no_items = 0
  items_count (item_and x xs) = item_count x + items_count xs

  pub operand_count : Operand → ℕ
  operand_count (InColumn held) = items_count held
  operand_count (Outside held) = statements_count held

  pub operands_count : Operands → ℕ
  operands_count no_operands = 0
  operands_count (operand_and x xs) = operand_count x + operands_count xs

  pub statement_count : Statement → ℕ
  statement_count (Column decl held) = items_count held
  statement_count (Covered cover held) = items_count held
  statement_count (Heading decl) = 0
  statement_count (Ended name) = 0

  pub statements_count : Statements → ℕ
  statements_count no_statements = 0
  statements_count (statement_and x xs) = statement_count x + statements_count xs

-- ---- the pieces of a level, in the order of the text, with their events numbered from n on

abbrev pub items_pieces : Option (List ℕ) → List (List ℕ) → ℕ → Items → List Piece
items_pieces column leads n no_items = []
items_pieces column leads n (item_and (placed place form) xs) =
    record { column = column; leads = leads; place = place; form = form; first = n } ∷ items_pieces column leads (n + form_count form) xs

-- `all` is what the level covers
abbrev pub covered : List (List ℕ) → Cover → List (List ℕ)
covered cover All = cover
covered cover (Listed names) = names

abbrev pub statement_pieces : List (List ℕ) → ℕ → Statement → List Piece
statement_pieces cover n (Column decl held) = items_pieces (Some decl.name) (decl.name ∷ []) n held
statement_pieces cover n (Covered names held) = items_pieces None (covered cover names) n held
statement_pieces cover n (Heading decl) = []
statement_pieces cover n (Ended name) = []

abbrev pub statements_pieces : List (List ℕ) → ℕ → Statements → List Piece
statements_pieces cover n no_statements = []
statements_pieces cover n (statement_and x xs) = statement_pieces cover n x ++ statements_pieces cover (n + statement_count x) xs

-- those of an operand of a piece
abbrev pub operand_pieces : List (List ℕ) → Piece → ℕ → Operand → List Piece
operand_pieces cover p n (InColumn held) = items_pieces p.column p.leads n held
operand_pieces cover p n (Outside held) = statements_pieces cover n held

-- those of its k-th operand, from 0
abbrev pub operand_at : List (List ℕ) → Piece → ℕ → ℕ → Operands → List Piece
operand_at cover p n k no_operands = []
operand_at cover p n zero (operand_and x xs) = operand_pieces cover p n x
operand_at cover p n (suc k) (operand_and x xs) = operand_at cover p (n + operand_count x) k xs

abbrev pub operand_of : List (List ℕ) → ℕ → Piece → Form → List Piece
operand_of cover k p (tree.Inline head operands) = operand_at cover p p.first k operands
operand_of cover k p _ = []

-- the k-th operand of an item is made of that of each of its parts
abbrev pub operands_of : List (List ℕ) → ℕ → List Piece → List Piece
operands_of cover k ps = flat_map (λ p. operand_of cover k p p.form) ps
