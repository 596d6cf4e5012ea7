-- What a basic chart holds, as plain trees (Z.120, clauses 4 and 7): columns and statements, with their items.
use Rattle.std.specs.Prelude.{ℕ, List, [], ◌∷◌, Option}
use Rattle.msc_base.specs.declared.place.Place.{Place}
use Rattle.msc_tree.specs.declared.chart.Cover.{Cover}
use Rattle.msc_tree.specs.declared.chart.Decl.{Decl}
use Rattle.msc_tree.specs.declared.event.RawEvent.{RawEvent}
use Rattle.msc_tree.specs.declared.reference.InlineForm.{InlineForm}
use Rattle.msc_tree.specs.declared.reference.Join.{Join}
use Rattle.msc_tree.specs.Expressions.{Expression}

-- what stands in front of the operands of an inline expression
pub record InlineHead : Type 0 where
  pub form : InlineForm
  pub lower : ℕ
  pub upper : Option ℕ
  pub name : Option (List ℕ)
  pub shared : Option Cover

-- a reference
pub record Reference : Type 0 where
  pub name : Option (List ℕ)
  pub expression : Expression
  pub joins : List Join
  pub shared : Option Cover

mutual
  -- what stands in a column, or behind a colon, with its place
  pub data Item : Type 0 where
    placed : Place → Form → Item

  pub data Form : Type 0 where
    Single : RawEvent → Form
    Coregion : List RawEvent → Form
    Condition : List (List ℕ) → Option Cover → Form
    Inline : InlineHead → Operands → Form
    Refer : Reference → Form
    Stop : Form

  pub data Items : Type 0 where
    no_items : Items
    item_and : Item → Items → Items

  -- the operand of an inline expression: in a column its items, elsewhere statements
  pub data Operand : Type 0 where
    InColumn : Items → Operand
    Outside : Statements → Operand

  pub data Operands : Type 0 where
    no_operands : Operands
    operand_and : Operand → Operands → Operands

  pub data Statement : Type 0 where
    -- the column of an instance
    Column : Decl → Items → Statement
    -- items of the covered instances
    Covered : Cover → Items → Statement
    -- an instance is declared
    Heading : Decl → Statement
    -- an instance ends
    Ended : List ℕ → Statement

  pub data Statements : Type 0 where
    no_statements : Statements
    statement_and : Statement → Statements → Statements

abbrev pub items : List Item → Items
items [] = no_items
items (x ∷ xs) = item_and x (items xs)

abbrev pub operands : List Operand → Operands
operands [] = no_operands
operands (x ∷ xs) = operand_and x (operands xs)

abbrev pub statements : List Statement → Statements
statements [] = no_statements
statements (x ∷ xs) = statement_and x (statements xs)

abbrev pub item_list : Items → List Item
item_list no_items = []
item_list (item_and x xs) = x ∷ item_list xs
