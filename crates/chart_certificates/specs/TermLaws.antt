-- Serves private contracts alone.
-- The terms of charts are such of which certificates are checked.
use Rattle.std.specs.Prelude.{ℕ, ◌≡◌, List, Some}
use Rattle.msc_acceptance.specs.AcceptedCharts.{IsAcceptedTable}
use Rattle.msc_meaning.specs.Tables.{ChartEntry, Table, chart_at}
use Rattle.chart_term.specs.Terms.{Tree}
use Rattle.term_tables.specs.NetValues.{NetsValue}
use Rattle.empty_terms.specs.ChartTerms.{IsChartTerm}
use Rattle.table_terms.specs.SoundGraphs.{HasSoundGraphs}
use Rattle.table_terms.specs.TableTerms.{HasRoom, IsTermOf}

pub record ChartTermsServe : Type 0 where
  pub room : (table : Table) (name : List ℕ) (chart : ChartEntry) → chart_at table name ≡ Some chart → IsAcceptedTable table → HasRoom table name
  pub graphs : (table : Table) (name : List ℕ) (chart : ChartEntry) → chart_at table name ≡ Some chart → IsAcceptedTable table → HasSoundGraphs table name
  pub serves : (table : Table) (name : List ℕ) (chart : ChartEntry) (v : NetsValue) (x : Tree) → chart_at table name ≡ Some chart → IsAcceptedTable table → IsTermOf table name v x → IsChartTerm v.tables x
  -- a chart has one term
  pub one : (table : Table) (name : List ℕ) (v w : NetsValue) (x y : Tree) → IsTermOf table name v x → IsTermOf table name w y → (v ≡ w) × (x ≡ y)
