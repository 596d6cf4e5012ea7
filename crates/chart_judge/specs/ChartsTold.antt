-- The verdict by the residual terms of a chart's term is the verdict by the chart, and there is no other; and a chart has one term.
use Rattle.std.specs.Prelude.{◌≡◌, ◌≤◌, ◌+◌, ℕ, List, [], Some}
use Rattle.msc_base.specs.Only.{Only}
use Rattle.msc_base.specs.declared.label.Label.{Label}
use Rattle.msc_base.specs.declared.limits.TheConstants.Limits.{EXPANDED_SIZE}
use Rattle.msc_base.specs.declared.verdict.Verdict.{Verdict}
use Rattle.line_events.specs.declared.event.LineEvent.{LineEvent}
use Rattle.msc_acceptance.specs.AcceptedCharts.{IsAcceptedTable}
use Rattle.msc_unfolding.specs.Runs.{IsRun}
use Rattle.msc_unfolding.specs.Unfoldings.{Unfolding}
use Rattle.msc_meaning.specs.Meanings.{Begins, Begun, Finished}
use Rattle.msc_meaning.specs.Tables.{ChartEntry, Table, chart_at}
use Rattle.chart_term.specs.Terms.{Tree, weight}
use Rattle.chart_forms.specs.TableSizes.{counted_size}
use Rattle.expanded_terms.specs.NetWeights.{nets_weight}
use Rattle.table_terms.specs.SoundGraphs.{HasSoundGraphs}
use Rattle.table_terms.specs.TableTerms.{HasRoom, IsTermOf, chart_numbering}
use Rattle.term_meaning.specs.Meanings.{Means}
use Rattle.term_tables.specs.NetValues.{NetsValue}
use Rattle.trace_judge.specs.Sets.{IsSoundFor}
use Rattle.trace_judge.specs.Verdicts as residual
use Rattle.chart_judge.specs.ChartVerdicts.{IsChartVerdict}

abbrev pub VerdictsAreTold : Type 0
VerdictsAreTold = (table : Table) (name : List ℕ) (chart : ChartEntry) (v : NetsValue) (x : Tree) (budget : ℕ) (events : List LineEvent) (verdict : Verdict)
    → chart_at table name ≡ Some chart → IsAcceptedTable table → IsTermOf table name v x → residual.IsTermVerdict v x budget events verdict → Only (IsChartVerdict table name budget events) verdict

-- a chart has one term; for that of a chart of an accepted table there is room, its graphs are sound, it means the chart's unfoldings, finished and under way, over
-- the names of the instances of the chart's expansion, is sound, and weighs, with the terms of the nodes of its nets, no more than the size of
-- the chart with all that it names, nor than the limit of sizes
pub record ChartsHaveTerms : Type 0 where
  pub one : (table : Table) (name : List ℕ) (v w : NetsValue) (x y : Tree) → IsTermOf table name v x → IsTermOf table name w y → (v ≡ w) × (x ≡ y)
  pub room : (table : Table) (name : List ℕ) (chart : ChartEntry) → chart_at table name ≡ Some chart → IsAcceptedTable table → HasRoom table name
  pub graphs : (table : Table) (name : List ℕ) (chart : ChartEntry) → chart_at table name ≡ Some chart → IsAcceptedTable table → HasSoundGraphs table name
  pub means : (table : Table) (name : List ℕ) (chart : ChartEntry) (v : NetsValue) (x : Tree) → chart_at table name ≡ Some chart → IsAcceptedTable table → IsTermOf table name v x
      → Means v (chart_numbering table name).names x (Finished table name) (Begun table name)
  pub sound : (table : Table) (name : List ℕ) (chart : ChartEntry) (v : NetsValue) (x : Tree) → chart_at table name ≡ Some chart → IsAcceptedTable table → IsTermOf table name v x → IsSoundFor v x
  pub weighs : (table : Table) (name : List ℕ) (chart : ChartEntry) (v : NetsValue) (x : Tree) → chart_at table name ≡ Some chart → IsAcceptedTable table → IsTermOf table name v x
      → weight x + nets_weight v.tables ≤ counted_size table name
  pub light : (table : Table) (name : List ℕ) (chart : ChartEntry) (v : NetsValue) (x : Tree) → chart_at table name ≡ Some chart → IsAcceptedTable table → IsTermOf table name v x
      → weight x + nets_weight v.tables ≤ EXPANDED_SIZE

-- each unfolding of such a chart has a linear order, and a run of the chart begins with no label
pub record ChartsHaveRuns : Type 0 where
  pub each : (table : Table) (name : List ℕ) (chart : ChartEntry) → chart_at table name ≡ Some chart → IsAcceptedTable table → (u : Unfolding) → Begun table name u → (labels : List Label) × IsRun u labels
  pub empty : (table : Table) (name : List ℕ) (chart : ChartEntry) → chart_at table name ≡ Some chart → IsAcceptedTable table → Begins table name []
