-- The budget that no log passes.
use Rattle.std.specs.Prelude.{◌≡◌, ◌≤◌, ◌+◌, ◌*◌, ℕ, List, Some, length}
use Rattle.msc_base.specs.declared.verdict.Verdict.TheVariants.{TooLarge}
use Rattle.line_events.specs.declared.event.LineEvent.{LineEvent}
use Rattle.msc_acceptance.specs.AcceptedCharts.{IsAcceptedTable}
use Rattle.msc_meaning.specs.Tables.{ChartEntry, Table, chart_at}
use Rattle.chart_term.specs.Terms.{Tree, weight}
use Rattle.table_terms.specs.TableTerms.{IsTermOf}
use Rattle.term_laws.specs.OneResidual.{IsUnambiguous}
use Rattle.term_tables.specs.NetValues.{NetsValue}
use Rattle.chart_judge.specs.ChartVerdicts.{IsChartVerdict}

-- where the term of a chart is unambiguous, no log of n events is too large for a budget of 2·(n+1) times the term's weight
pub record ChartBudgetsSuffice : Type 0 where
  pub never : (table : Table) (name : List ℕ) (chart : ChartEntry) (v : NetsValue) (x : Tree) (budget : ℕ) (events : List LineEvent) (number : ℕ)
      → chart_at table name ≡ Some chart → IsAcceptedTable table → IsTermOf table name v x → IsUnambiguous x → 2 * (length events + 1) * weight x ≤ budget → IsChartVerdict table name budget events (TooLarge number) → ⊥
