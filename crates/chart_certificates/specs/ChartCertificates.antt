-- When a certificate holds for the events of a log, by a chart of a table.
use Rattle.std.specs.Prelude.{ℕ, List}
use Rattle.line_events.specs.declared.event.LineEvent.{LineEvent}
use Rattle.msc_meaning.specs.Tables.{Table}
use Rattle.chart_term.specs.Tables.{terms_over}
use Rattle.chart_term.specs.Terms.{Tree}
use Rattle.term_tables.specs.NetValues.{NetsValue}
use Rattle.certificates.specs.Certificates.{Certificate, Holds}
use Rattle.numbered_log.specs.Numbers.{numbers_in}
use Rattle.chart_judge.specs.ChartVerdicts.{HasTerm}

-- it holds for the chart's term and the numbers that the labels have in its tables
pub record HoldsFor (table : Table) (name : List ℕ) (events : List LineEvent) (certificate : Certificate) : Type 0 where
  pub tables : NetsValue
  pub term : Tree
  pub has : HasTerm table name tables term
  pub holds : Holds (terms_over tables.tables) term (numbers_in tables.labels events) certificate
