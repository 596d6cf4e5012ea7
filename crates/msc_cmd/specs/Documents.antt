-- What the bytes of a document are: a table of charts, or the first rule that they break.
use Rattle.std.specs.Prelude.{◌≡◌, ℕ, List, Some}
use Rattle.msc_base.specs.declared.place.Place.{Place}
use Rattle.msc_tree.specs.Charts.{Document as Tree}
use Rattle.msc_rules.specs.declared.rule.Rule.{Rule}
use Rattle.msc_acceptance.specs.Acceptance.{HasFault, IsAccepted}
use Rattle.msc_acceptance.specs.AcceptedCharts.{IsAcceptedTable}
use Rattle.msc_meaning.specs.Tables.{ChartEntry, Table, chart_at}
use Rattle.msc_meaning.specs.Views.{table_view}
use Rattle.msc_cmd.specs.DocumentTexts.{ReadsDocument, HasTextFault}
use Rattle.msc_cmd.specs.declared.document.Document.{Document}
use Rattle.msc_cmd.specs.declared.document.Document.TheVariants.{Charts, Refused}

-- the bytes are a document of this table of charts
pub record IsDocument (bytes : List ℕ) (table : Table) : Type 0 where
  pub tree : Tree
  pub read : ReadsDocument bytes tree
  pub accepted : IsAccepted tree table

-- the first rule that the bytes break, by group, and its place
pub data HasDocumentFault (bytes : List ℕ) (broken : Rule) (place : Place) : Type 0 where
  of_text : HasTextFault bytes broken place → HasDocumentFault bytes broken place
  of_charts : (tree : Tree) → ReadsDocument bytes tree → HasFault tree broken place → HasDocumentFault bytes broken place

-- they are a document of this table, of no other, and break no rule; the judge can judge by each of its charts
pub record IsOnlyDocument (bytes : List ℕ) (table : Table) : Type 0 where
  pub is : IsDocument bytes table
  pub only : (other : Table) → IsDocument bytes other → other ≡ table
  pub faultless : (broken : Rule) (place : Place) → HasDocumentFault bytes broken place → ⊥
  pub charts : IsAcceptedTable table

-- they break this rule first, at this place, and are no document
pub record IsOnlyFault (bytes : List ℕ) (broken : Rule) (place : Place) : Type 0 where
  pub is : HasDocumentFault bytes broken place
  pub only : (other : Rule) (there : Place) → HasDocumentFault bytes other there → (other ≡ broken) × (there ≡ place)
  pub none : (table : Table) → IsDocument bytes table → ⊥

abbrev pub IsTheDocument : List ℕ → Document → Type 0
IsTheDocument bytes (Charts charts) = IsOnlyDocument bytes (table_view charts)
IsTheDocument bytes (Refused broken place) = IsOnlyFault bytes broken place

-- ---- documents that have been read

-- the document is of this table, of no other, and has no fault
pub record AcceptsAlone (tree : Tree) (table : Table) : Type 0 where
  pub is : IsAccepted tree table
  pub only : (other : Table) → IsAccepted tree other → other ≡ table
  pub faultless : (broken : Rule) (place : Place) → HasFault tree broken place → ⊥
  pub charts : IsAcceptedTable table

-- it has this fault, no other, and is of no table
pub record RefusesAlone (tree : Tree) (broken : Rule) (place : Place) : Type 0 where
  pub is : HasFault tree broken place
  pub only : (other : Rule) (there : Place) → HasFault tree other there → (other ≡ broken) × (there ≡ place)
  pub none : (table : Table) → IsAccepted tree table → ⊥

abbrev pub ComesTo : Tree → Document → Type 0
ComesTo tree (Charts charts) = AcceptsAlone tree (table_view charts)
ComesTo tree (Refused broken place) = RefusesAlone tree broken place

-- the table has a chart of that name
abbrev pub HasChartNamed : Table → List ℕ → Type 0
HasChartNamed table name = (chart : ChartEntry) × (chart_at table name ≡ Some chart)
