-- The term of a chart of a table.
use Rattle.std.specs.Prelude.{◌≡◌, ◌≤◌, ℕ, List, [], Some, length}
use Rattle.msc_base.specs.declared.limits.TheConstants.Limits.{INSTANCES, EXPANDED_NESTING}
use Rattle.msc_base.specs.Orders.{Among}
use Rattle.chart_term.specs.Terms.{Tree}
use Rattle.term_tables.specs.NetValues.{NetsValue}
use Rattle.msc_meaning.specs.Tables.{Table}
use Rattle.expansion_tree.specs.Expansions.{Expansion, events_in}
use Rattle.expansion_tree.specs.Numbered as numbered
use Rattle.expanded_charts.specs.Expanding.{NumberedEvent, expansion}
use Rattle.gate_ends.specs.FoundEnds.{table_ends}
use Rattle.expanded_charts.specs.Numbering.{numbered_by, numbering_of}
use Rattle.expanded_charts.specs.declared.numbering.Numbering.{Numbering}
use Rattle.expansion_terms.specs.MadeTerms.{Made, judged}

-- the expansion of the chart of that name, whose references stand in each other no deeper than the limit
abbrev pub chart_expansion : Table → List ℕ → Expansion NumberedEvent
chart_expansion table name = expansion (table_ends table) table EXPANDED_NESTING name

-- its instances and labels
abbrev pub chart_numbering : Table → List ℕ → Numbering
chart_numbering table name = numbering_of (chart_expansion table name)

-- the expansion by their numbers
abbrev pub numbered_chart : Table → List ℕ → numbered.Expansion
numbered_chart table name = numbered_by (chart_numbering table name) (chart_expansion table name)

-- its term, with the nets of its walks
abbrev pub chart_made : Table → List ℕ → Made
chart_made table name = judged [] (numbered_chart table name)

-- the labels of its events, and these nets
abbrev pub chart_tables : Table → List ℕ → NetsValue
chart_tables table name = record { labels = (chart_numbering table name).labels; tables = (chart_made table name).tables }

-- the term is the one that is made of the numbered expansion, over these tables
pub record IsTermOf (table : Table) (name : List ℕ) (v : NetsValue) (x : Tree) : Type 0 where
  pub term : x ≡ (chart_made table name).term
  pub nets : v ≡ chart_tables table name

-- a term has room for the instances of the chart, and no event is at one instance twice
pub record HasRoom (table : Table) (name : List ℕ) : Type 0 where
  pub few : length (chart_numbering table name).names ≤ INSTANCES
  pub apart : (e : NumberedEvent) → Among e (events_in (chart_expansion table name)) → e.happening.also ≡ Some e.happening.label.at → ⊥
