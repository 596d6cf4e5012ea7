-- The text of a chart as one list, in its order: what stands in it, and where (Z.120, clauses 4 and 7).
use Rattle.std.specs.Prelude.{ℕ, suc, List, [], ◌∷◌, ◌++◌, map, Option, None, Some}
use Rattle.msc_base.specs.declared.place.Place.{Place}
use Rattle.msc_tree.specs.declared.chart.Cover.{Cover}
use Rattle.msc_tree.specs.declared.chart.Cover.TheVariants.{All, Listed}
use Rattle.msc_tree.specs.declared.chart.Decl.{Decl}
use Rattle.msc_tree.specs.Charts.{Chart, Content, Basic, HighLevel}
use Rattle.msc_tree.specs.Statements.{Item, placed, Form, Single, Coregion, Condition, Inline, Refer, Stop, Items, no_items, item_and, Operand, InColumn, Outside, Operands, no_operands, operand_and, Statement, Column, Covered, Heading, Ended, Statements, no_statements, statement_and, statements}

-- which instances may be named: all of the chart, or only these of them
pub data Scope : Type 0 where
  Whole : Scope
  Within : List (List ℕ) → Scope

-- what an item stands in: the column of an instance; or behind a colon, with these names left of it, or with `all`, which are those
-- that may be named there
pub data Side : Type 0 where
  in_column : List ℕ → Side
  behind : List (List ℕ) → Side
  behind_all : Scope → Side

-- where an item or an operand stands
pub record Standing : Type 0 where
  -- how many operands it stands in, each within the one before
  pub depth : ℕ
  -- what it stands in; an operand, what its expression stands in
  pub side : Side
  -- the instances that may be named there
  pub scope : Scope

-- what stands in a text
pub data Passage : Type 0 where
  -- a declaration of the heads
  a_head : Decl → Passage
  -- a statement, at that depth, where those instances may be named
  a_statement : ℕ → Scope → Statement → Passage
  an_item : Standing → Place → Form → Passage
  -- an operand, with the standing of what it holds
  an_operand : Standing → Operand → Passage

-- ---- where items stand

-- the column, where it is one
abbrev pub column_of : Side → Option (List ℕ)
column_of (in_column name) = Some name
column_of (behind names) = None
column_of (behind_all scope) = None

-- the instances in whose columns it stands
abbrev pub own_scope : Side → Scope
own_scope (in_column name) = Within (name ∷ [])
own_scope (behind names) = Within names
own_scope (behind_all scope) = scope

-- behind a colon
abbrev pub behind_colon : Scope → Cover → Side
behind_colon scope All = behind_all scope
behind_colon scope (Listed names) = behind names

-- the instances that a part covers: those of its shared list, where it has one, in which `all` are those of the scope; else its own
abbrev pub covered_scope : Scope → Scope → Option Cover → Scope
covered_scope scope own None = own
covered_scope scope own (Some All) = scope
covered_scope scope own (Some (Listed [])) = own
covered_scope scope own (Some (Listed (n ∷ ns))) = Within (n ∷ ns)

-- inside the operands of an inline expression: the instances that it covers may be named there
abbrev pub inside : Standing → Option Cover → Standing
inside s shared = record { depth = suc s.depth; side = s.side; scope = covered_scope s.scope (own_scope s.side) shared }

-- ---- the text

abbrev mutual
  pub items_text : Standing → Items → List Passage
  items_text s no_items = []
  items_text s (item_and x xs) = item_text s x ++ items_text s xs

  pub item_text : Standing → Item → List Passage
  item_text s (placed place form) = an_item s place form ∷ form_text s form

  -- what stands inside an item
  pub form_text : Standing → Form → List Passage
  form_text s (Inline head held) = operands_text (inside s head.shared) held
  form_text s (Single event) = []
  form_text s (Coregion events) = []
  form_text s (Condition names shared) = []
  form_text s (Refer reference) = []
  form_text s Stop = []

  pub operands_text : Standing → Operands → List Passage
  operands_text s no_operands = []
  operands_text s (operand_and x xs) = (an_operand s x ∷ operand_held s x) ++ operands_text s xs

  -- what an operand holds
  pub operand_held : Standing → Operand → List Passage
  operand_held s (InColumn held) = items_text s held
  operand_held s (Outside held) = statements_text s.depth s.scope held

  -- what a statement holds
  pub statement_held : ℕ → Scope → Statement → List Passage
  statement_held depth scope (Column decl held) = items_text (record { depth = depth; side = in_column decl.name; scope = scope }) held
  statement_held depth scope (Covered cover held) = items_text (record { depth = depth; side = behind_colon scope cover; scope = scope }) held
  statement_held depth scope (Heading decl) = []
  statement_held depth scope (Ended name) = []

  pub statements_text : ℕ → Scope → Statements → List Passage
  statements_text depth scope no_statements = []
  statements_text depth scope (statement_and x xs) = (a_statement depth scope x ∷ statement_held depth scope x) ++ statements_text depth scope xs

-- the statements of a basic chart; what a graph has isn't text of this kind
abbrev pub content_text : Content → List Passage
content_text (Basic held) = statements_text 0 Whole (statements held)
content_text (HighLevel drawn) = []

-- the heads, and what the chart holds
abbrev pub chart_text : Chart → List Passage
chart_text chart = map a_head chart.decls ++ content_text chart.content
