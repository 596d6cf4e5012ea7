-- What a judge of sessions by a chart was fed.
use Rattle.std.specs.Prelude.{ℕ, ◌≡◌, ◌≤◌, List, length, None}
use Rattle.msc_base.specs.declared.limits.TheConstants.Limits.{LOG_BYTES}
use Rattle.msc_acceptance.specs.AcceptedCharts.{IsAcceptedTable}
use Rattle.msc_meaning.specs.Tables.{Table}
use Rattle.event_log.specs.declared.event.LogForm.{LogForm}
use Rattle.chart_term.specs.Terms.{Tree}
use Rattle.term_tables.specs.NetValues.{NetsValue}
use Rattle.term_sets.specs.contracts.pool.PoolStore.TheImpl.{holds-value}
use Rattle.term_sets.specs.Memories.{PoolValue}
use Rattle.chart_judge.specs.ChartVerdicts.{HasTerm}
use Rattle.session_judge.specs.States.{SessionsValue, Fed}

-- so many bytes were fed, and no more than a log may have
pub record HasCounted (bytes : List ℕ) (judge : SessionsValue PoolValue) : Type 0 where
  pub count : judge.reader.count ≡ length bytes
  pub within : judge.reader.count ≤ LOG_BYTES

-- the judge was made for the chart of that name in an accepted table, this form of log and this budget, has been fed these bytes, and met no fault
pub record IsJudgingSessions (table : Table) (name : List ℕ) (form : LogForm) (budget : ℕ) (bytes : List ℕ) (judge : SessionsValue PoolValue) : Type 0 where
  pub tables : NetsValue
  pub term : Tree
  pub has : HasTerm table name tables term
  pub accepted : IsAcceptedTable table
  pub fed : Fed holds-value.it tables term form budget bytes judge
  pub faultless : judge.fault ≡ None
  pub counted : HasCounted bytes judge
