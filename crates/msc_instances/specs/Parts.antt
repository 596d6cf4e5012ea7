-- The inline expressions and references of a chart that have names, level by level, and which of them may not have the name that
-- they have. A level is the body of the chart, or one operand of an inline expression. In columns, parts of one name are one
-- item, so one name may stand in several columns of a level; nothing joins two in one column, or one outside columns with another.
use Rattle.std.specs.Prelude.{◌≡◌, ◌⊎◌, ⊤, ℕ, List, [], ◌∷◌, ◌++◌, Option, None, Some}
use Rattle.std.specs.List.{flat_map}
use Rattle.chart_text.specs.Texts.{Passage, a_head, a_statement, an_item, an_operand, chart_text, column_of}
use Rattle.msc_base.specs.declared.place.Place.{Place}
use Rattle.msc_tree.specs.Charts.{Chart, Content, Basic, HighLevel}
use Rattle.msc_tree.specs.Statements.{Item, placed, Form, Single, Coregion, Condition, Inline, Refer, Stop, Items, no_items, item_and, Operand, InColumn, Outside, Statement, Column, Covered, Heading, Ended, Statements, no_statements, statement_and, statements}

-- an inline expression or reference that has a name: the column that it stands in, or none outside columns, and its place
pub record NamedPart : Type 0 where
  pub name : List ℕ
  pub column : Option (List ℕ)
  pub place : Place

-- ---- the parts of one level, in the order of the text

abbrev pub named_part : Option (List ℕ) → Place → Option (List ℕ) → List NamedPart
named_part column place None = []
named_part column place (Some name) = record { name = name; column = column; place = place } ∷ []

abbrev pub form_parts : Option (List ℕ) → Place → Form → List NamedPart
form_parts column place (Inline head held) = named_part column place head.name
form_parts column place (Refer reference) = named_part column place reference.name
form_parts column place (Single event) = []
form_parts column place (Coregion events) = []
form_parts column place (Condition names shared) = []
form_parts column place Stop = []

abbrev pub item_parts : Option (List ℕ) → Item → List NamedPart
item_parts column (placed place form) = form_parts column place form

abbrev pub items_parts : Option (List ℕ) → Items → List NamedPart
items_parts column no_items = []
items_parts column (item_and item items) = item_parts column item ++ items_parts column items

abbrev pub statement_parts : Statement → List NamedPart
statement_parts (Column decl items) = items_parts (Some decl.name) items
statement_parts (Covered cover items) = items_parts None items
statement_parts (Heading decl) = []
statement_parts (Ended name) = []

abbrev pub statements_parts : Statements → List NamedPart
statements_parts no_statements = []
statements_parts (statement_and statement statements) = statement_parts statement ++ statements_parts statements

abbrev pub operand_parts : Option (List ℕ) → Operand → List NamedPart
operand_parts column (InColumn held) = items_parts column held
operand_parts column (Outside held) = statements_parts held

-- ---- the levels of a chart

-- the level that an operand is
abbrev pub passage_levels : Passage → List (List NamedPart)
passage_levels (a_head decl) = []
passage_levels (a_statement depth scope x) = []
passage_levels (an_item s place form) = []
passage_levels (an_operand s x) = operand_parts (column_of s.side) x ∷ []

-- the outermost level
abbrev pub outermost_level : Content → List (List NamedPart)
outermost_level (Basic held) = statements_parts (statements held) ∷ []
outermost_level (HighLevel held) = []

-- all levels of a chart
abbrev pub chart_levels : Chart → List (List NamedPart)
chart_levels chart = outermost_level chart.content ++ flat_map passage_levels (chart_text chart)

-- ---- the rule

-- two parts of these columns can't have one name: both stand in one column, or one of them outside columns
abbrev pub ExcludeEachOther : Option (List ℕ) → Option (List ℕ) → Type 0
ExcludeEachOther None d = ⊤
ExcludeEachOther (Some c) None = ⊤
ExcludeEachOther (Some c) (Some d) = c ≡ d

-- one of those before has its name, where that may not be
abbrev pub Clashes : List NamedPart → NamedPart → Type 0
Clashes [] part = ⊥
Clashes (b ∷ before) part = ((b.name ≡ part.name) × ExcludeEachOther b.column part.column) ⊎ Clashes before part

-- of the parts of a level, one at that place clashes with one before it
abbrev pub NamesAgain : List NamedPart → List NamedPart → Place → Type 0
NamesAgain before [] p = ⊥
NamesAgain before (part ∷ parts) p = ((part.place ≡ p) × Clashes before part) ⊎ NamesAgain (part ∷ before) parts p

-- in one of the levels
abbrev pub SomeNamesAgain : List (List NamedPart) → Place → Type 0
SomeNamesAgain [] p = ⊥
SomeNamesAgain (level ∷ levels) p = NamesAgain [] level p ⊎ SomeNamesAgain levels p
