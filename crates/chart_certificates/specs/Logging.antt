-- What a log that is read for a certificate's sake has been fed, and what it leaves.
use Rattle.std.specs.Prelude.{ℕ, ◌≡◌, ◌≤◌, false, List, length, None}
use Rattle.msc_base.specs.declared.limits.TheConstants.Limits.{LOG_BYTES}
use Rattle.msc_acceptance.specs.AcceptedCharts.{IsAcceptedTable}
use Rattle.msc_meaning.specs.Tables.{Table}
use Rattle.line_events.specs.declared.event.LineEvent.{LineEvent}
use Rattle.event_log.specs.States.{IsFaultOf}
use Rattle.event_log.specs.declared.event.LogForm.{LogForm}
use Rattle.chart_term.specs.Terms.{Tree}
use Rattle.term_tables.specs.NetValues.{NetsValue}
use Rattle.chart_judge.specs.ChartVerdicts.{HasTerm}
use Rattle.numbered_log.specs.Numbers.{numbers_in}
use Rattle.numbered_log.specs.States.{Fed, NumberedValue}

-- the chart's term, its tables, and the log so far
pub record ChartLogValue : Type 0 where
  pub nets : NetsValue
  pub term : Tree
  pub log : NumberedValue

-- the chart's term, its tables, and the numbers of a log's events
pub record ChartRunValue : Type 0 where
  pub nets : NetsValue
  pub term : Tree
  pub numbers : List ℕ

-- it was made for the chart of that name in an accepted table and this form of log, has been fed these bytes, and met no fault
pub record IsLogging (table : Table) (name : List ℕ) (form : LogForm) (bytes : List ℕ) (l : ChartLogValue) : Type 0 where
  pub has : HasTerm table name l.nets l.term
  pub accepted : IsAcceptedTable table
  pub fed : Fed l.nets.labels form bytes l.log
  pub faultless : l.log.fault ≡ None
  pub count : l.log.reader.count ≡ length bytes
  pub within : l.log.reader.count ≤ LOG_BYTES

-- the numbers are those of these events in the tables of the chart of that name
pub record IsRunOn (table : Table) (name : List ℕ) (events : List LineEvent) (r : ChartRunValue) : Type 0 where
  pub has : HasTerm table name r.nets r.term
  pub accepted : IsAcceptedTable table
  pub numbers : r.numbers ≡ numbers_in r.nets.labels events

-- the bytes are a log, and the numbers are those of its events
pub record IsLogged (table : Table) (name : List ℕ) (form : LogForm) (bytes : List ℕ) (r : ChartRunValue) : Type 0 where
  pub log : IsFaultOf form false bytes None
  pub run : IsRunOn table name log.events r
