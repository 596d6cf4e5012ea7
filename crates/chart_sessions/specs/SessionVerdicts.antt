-- What the sessions of a log are for a chart of a table.
use Rattle.std.specs.Prelude.{ℕ, ◌≡◌, false, List, map, None}
use Rattle.msc_base.specs.Lists.{IsAmong}
use Rattle.msc_base.specs.Only.{Only}
use Rattle.msc_meaning.specs.Tables.{Table}
use Rattle.event_log.specs.RuledStates.{IsFaultOf}
use Rattle.event_log.specs.declared.event.LogForm.{LogForm}
use Rattle.session_log.specs.Sessions.{session_rules}
use Rattle.chart_judge.specs.ChartVerdicts.{IsChartVerdict}
use Rattle.session_judge.specs.SessionEvents.{events_of, keys_of}
use Rattle.session_judge.specs.declared.verdict.SessionVerdict.{SessionVerdict}

-- The bytes are a log of sessions. There is one answer for each key of its events, in the order of their first lines, with the one verdict on
-- the events of that key by the chart of that name.
pub record IsSessionsOn (table : Table) (name : List ℕ) (form : LogForm) (budget : ℕ) (bytes : List ℕ) (answers : List SessionVerdict) : Type 0 where
  pub log : IsFaultOf session_rules form false bytes None
  pub keys : map (λ (a : SessionVerdict). a.key) answers ≡ keys_of log.events
  pub each : (a : SessionVerdict) → IsAmong answers a → Only (IsChartVerdict table name budget (events_of a.key log.events)) a.verdict
