-- The table that a document is woven to.
use Rattle.std.specs.Prelude.{◌≡◌, ℕ, List, [], ◌∷◌}
use Rattle.std.specs.List.{flat_map}
use Rattle.chart_text.specs.Texts.{Passage, a_head, a_statement, an_item, an_operand, chart_text}
use Rattle.msc_tree.specs.declared.chart.Decl.{Decl}
use Rattle.msc_tree.specs.Charts.{Chart, Content, Document}
use Rattle.msc_tree.specs.Charts as chart
use Rattle.msc_tree.specs.Statements.{Statement, Column, Covered, Heading, Ended, statements}
use Rattle.msc_meaning.specs.Levels.{IsWovenLevel}
use Rattle.msc_meaning.specs.Pieces.{statements_pieces}
use Rattle.msc_meaning.specs.Tables.{ChartEntry, Table, Woven, Basic, HighLevel}

-- the content of a chart of these instances
abbrev pub IsWovenContent : List (List ℕ) → Content → Woven → Type 0
IsWovenContent names (chart.Basic held) (Basic body) = IsWovenLevel names (statements_pieces names 0 (statements held)) body
IsWovenContent names (chart.HighLevel drawn) (HighLevel held) = drawn ≡ held
IsWovenContent names (chart.Basic held) (HighLevel drawn) = ⊥
IsWovenContent names (chart.HighLevel drawn) (Basic body) = ⊥

-- what a statement declares by itself
abbrev pub heading_decls : Statement → List Decl
heading_decls (Column decl held) = decl ∷ []
heading_decls (Covered cover held) = []
heading_decls (Heading decl) = decl ∷ []
heading_decls (Ended name) = []

-- what a passage of a text declares
abbrev pub declares : Passage → List Decl
declares (a_head decl) = decl ∷ []
declares (a_statement depth scope x) = heading_decls x
declares (an_item s place form) = []
declares (an_operand s x) = []

-- the declarations of a chart: those of its heads, and those of its statements at any depth
abbrev pub chart_decls : Chart → List Decl
chart_decls chart = flat_map declares (chart_text chart)

-- the entry of a chart of these instances
pub record IsEntryOf (names : List (List ℕ)) (drawn : Chart) (entry : ChartEntry) : Type 0 where
  pub name : entry.name ≡ drawn.name
  pub decls : entry.decls ≡ chart_decls drawn
  pub content : IsWovenContent names drawn.content entry.content

-- the entries of these charts, one after another
pub data AreEntriesOf (instances : Chart → List (List ℕ)) : List Chart → Table → Type 0 where
  no_entries : AreEntriesOf instances [] []
  entry_and : {drawn : Chart} {others : List Chart} {entry : ChartEntry} {table : Table}
      → IsEntryOf (instances drawn) drawn entry → AreEntriesOf instances others table → AreEntriesOf instances (drawn ∷ others) (entry ∷ table)

-- the table of a document, by the instances that each of its basic charts has
abbrev pub IsTableOf : (Chart → List (List ℕ)) → Document → Table → Type 0
IsTableOf instances document table = AreEntriesOf instances document.charts table
