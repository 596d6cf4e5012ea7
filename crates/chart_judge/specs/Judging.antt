-- What a judge of a chart was fed, and what it says of a log's bytes.
use Rattle.std.specs.Prelude.{ℕ, ◌≡◌, ◌≤◌, false, List, length, None}
use Rattle.msc_base.specs.Only.{Only}
use Rattle.msc_base.specs.declared.limits.TheConstants.Limits.{LOG_BYTES}
use Rattle.msc_base.specs.declared.verdict.Verdict.{Verdict}
use Rattle.msc_acceptance.specs.AcceptedCharts.{IsAcceptedTable}
use Rattle.msc_meaning.specs.Tables.{Table}
use Rattle.event_log.specs.States.{IsFaultOf}
use Rattle.event_log.specs.declared.event.LogForm.{LogForm}
use Rattle.chart_term.specs.Terms.{Tree}
use Rattle.term_tables.specs.NetValues.{NetsValue}
use Rattle.term_sets.specs.contracts.pool.PoolStore.TheImpl.{holds-value}
use Rattle.term_sets.specs.Memories.{PoolValue}
use Rattle.log_judge.specs.States.{JudgeValue, Fed}
use Rattle.chart_judge.specs.ChartVerdicts.{HasTerm, IsChartVerdict}

-- so many bytes were fed, and no more than a log may have
pub record HasCounted (bytes : List ℕ) (judge : JudgeValue PoolValue) : Type 0 where
  pub count : judge.reader.count ≡ length bytes
  pub within : judge.reader.count ≤ LOG_BYTES

-- the judge was made for the chart of that name in an accepted table, this form of log and this budget, has been fed these bytes, and met no fault
pub record IsJudging (table : Table) (name : List ℕ) (form : LogForm) (budget : ℕ) (bytes : List ℕ) (judge : JudgeValue PoolValue) : Type 0 where
  pub tables : NetsValue
  pub term : Tree
  pub has : HasTerm table name tables term
  pub accepted : IsAcceptedTable table
  pub fed : Fed holds-value.it tables term form budget bytes judge
  pub faultless : judge.fault ≡ None
  pub counted : HasCounted bytes judge

-- the bytes are a log, and this is the one verdict on its events by the chart of that name
pub record IsVerdictOn (table : Table) (name : List ℕ) (form : LogForm) (budget : ℕ) (bytes : List ℕ) (verdict : Verdict) : Type 0 where
  pub log : IsFaultOf form false bytes None
  pub is : Only (IsChartVerdict table name budget log.events) verdict
