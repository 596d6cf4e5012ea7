-- For which logs a certificate holds.
use Rattle.std.specs.Prelude.{ℕ, ◌≡◌, List, Some}
use Rattle.line_events.specs.declared.event.LineEvent.{LineEvent}
use Rattle.msc_acceptance.specs.AcceptedCharts.{IsAcceptedTable}
use Rattle.msc_meaning.specs.Meanings.{Conforms}
use Rattle.msc_meaning.specs.Tables.{ChartEntry, Table, chart_at}
use Rattle.certificates.specs.Certificates.{Certificate}
use Rattle.chart_term.specs.TermPatterns.{Both}
use Rattle.trace_judge.specs.Logs.{labels_of}
use Rattle.chart_certificates.specs.ChartCertificates.{HoldsFor}

-- a certificate that holds for the events
pub record HasCertificate (table : Table) (name : List ℕ) (events : List LineEvent) : Type 0 where
  pub certificate : Certificate
  pub holds : HoldsFor table name events certificate

-- by a chart of an accepted table there is one exactly where the events are a run of a finished unfolding of the chart
abbrev pub CertificatesTellRuns : Type 0
CertificatesTellRuns = (table : Table) (name : List ℕ) (chart : ChartEntry) (events : List LineEvent) → chart_at table name ≡ Some chart → IsAcceptedTable table → Both (HasCertificate table name events) (Conforms table name (labels_of events))
