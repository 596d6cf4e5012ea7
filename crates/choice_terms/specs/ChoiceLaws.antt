-- The choices of a chart, side by side with the parts of its expansion that they come to.
use Rattle.std.specs.Prelude.{◌≡◌, ℕ, List, Some}
use Rattle.msc_base.specs.declared.limits.TheConstants.Limits.{EXPANDED_NESTING}
use Rattle.msc_base.specs.Orders.{Among}
use Rattle.msc_meaning.specs.Tables.{ChartEntry, Table, chart_at, refinements}
use Rattle.expansion_tree.specs.Expansions.{events_in}
use Rattle.expansion_order.specs.Ranks.{CanBeRanked}
use Rattle.expanded_charts.specs.Expanding.{NumberedEvent}
use Rattle.expanded_terms.specs.GateTies.{IsQuietTable}
use Rattle.expanded_terms.specs.PlacedTerms.{child_of}
use Rattle.expanded_terms.specs.WholeCharts.{IsWholeTo}
use Rattle.gate_ends.specs.FoundEnds.{table_ends}
use Rattle.table_terms.specs.SoundGraphs.{HasSoundGraphs}
use Rattle.table_terms.specs.TableTerms.{HasRoom, chart_expansion, chart_numbering, numbered_chart}
use Rattle.choice_meaning.specs.Choices.{choices_of}
use Rattle.choice_parts.specs.ChoiceParts.{woven_parts}
use Rattle.choice_terms.specs.JudgedParts.{AreChoiceParts}

-- what is asked of a chart: what its term asks, with ranks and room
pub record IsJudgedChart (table : Table) (name : List ℕ) : Type 0 where
  pub graphs : HasSoundGraphs table name
  pub quiet : IsQuietTable table
  pub whole : IsWholeTo table (table_ends table) EXPANDED_NESTING name
  pub ranked : CanBeRanked (numbered_chart table name)
  pub room : HasRoom table name
  pub placed : (e : NumberedEvent) → Among e (events_in (chart_expansion table name)) → e.happening.also ≡ child_of e.happening.label

abbrev pub ChoicesHaveParts : Type 0
ChoicesHaveParts = (table : Table) (name : List ℕ) (chart : ChartEntry) → chart_at table name ≡ Some chart → IsJudgedChart table name
    → AreChoiceParts (chart_numbering table name).names (chart_numbering table name).labels table (choices_of chart) (woven_parts (refinements chart.decls) chart.content (numbered_chart table name))
