-- What the command answers of the sessions of a log.
use Rattle.std.specs.Prelude.{◌≡◌, ◌==◌, ◌++◌, ℕ, Bool, if◌then◌else◌, false, List, length, map, flat_map, Some, None}
use Rattle.std.specs.List.{list_any}
use Rattle.msc_base.specs.Lists.{IsAmong}
use Rattle.msc_meaning.specs.Tables.{Table}
use Rattle.event_log.specs.declared.event.LogFault.{LogFault}
use Rattle.event_log.specs.declared.event.LogForm.{LogForm}
use Rattle.session_log.specs.Sessions.{SessionsOf}
use Rattle.session_log.specs.declared.keyed.KeyedEvent.{KeyedEvent}
use Rattle.session_judge.specs.SessionEvents.{events_of, keys_of}
use Rattle.session_judge.specs.declared.verdict.SessionVerdict.{SessionVerdict}
use Rattle.chart_judge.specs.ChartVerdicts.{IsChartVerdict}
use Rattle.judge_report.specs.SessionTexts.{session_line, sessions_end}
use Rattle.judge_report.specs.Texts.{fault_line}
use Rattle.judge_report.specs.declared.fault.Fault.TheVariants.{Log}
use Rattle.msc_cmd.specs.VerdictStatuses.{status_of}

-- a session has a verdict of this status
abbrev pub has_status : ℕ → List SessionVerdict → Bool
has_status status answers = list_any (λ (a : SessionVerdict). status_of a.verdict == status) answers

-- the status of the gravest verdict: that of a session that fails, else of one that is too large, else of one that stops early
abbrev pub worst_status : List SessionVerdict → ℕ
worst_status answers = if has_status 1 answers then 1 else if has_status 6 answers then 6 else if has_status 3 answers then 3 else 0

-- the line of a session
abbrev pub answer_line : SessionVerdict → List ℕ
answer_line a = session_line a.key a.verdict

-- a line for each session, and how many they are
abbrev pub sessions_list : List SessionVerdict → List ℕ
sessions_list answers = flat_map answer_line answers ++ sessions_end (length answers)

-- a verdict for each key of the events, in the order of their first lines: that on the events of the key alone
pub record AreSessionVerdicts (table : Table) (name : List ℕ) (budget : ℕ) (events : List KeyedEvent) (answers : List SessionVerdict) : Type 0 where
  pub keys : map (λ (a : SessionVerdict). a.key) answers ≡ keys_of events
  pub each : (a : SessionVerdict) → IsAmong answers a → IsChartVerdict table name budget (events_of a.key events) a.verdict

-- what the bytes of a log of sessions in this form give for the chart of a name within the budget of each session
pub data SessionsOutcome (form : LogForm) (budget : ℕ) (table : Table) (name bytes : List ℕ) (status : ℕ) (text : List ℕ) : Type 0 where
  bad_sessions : (events : List KeyedEvent) (fault : LogFault) → SessionsOf form false bytes events (Some fault) → status ≡ 5 → text ≡ fault_line false (Log fault) → SessionsOutcome form budget table name bytes status text
  judged_sessions : (events : List KeyedEvent) (answers : List SessionVerdict) → SessionsOf form false bytes events None → AreSessionVerdicts table name budget events answers → status ≡ worst_status answers → text ≡ sessions_list answers
      → SessionsOutcome form budget table name bytes status text

-- the same of the charts of a table, for each list of bytes
abbrev pub SessionsAnswer : LogForm → ℕ → List ℕ → Table → List ℕ → ℕ → List ℕ → Type 0
SessionsAnswer form budget name table bytes = SessionsOutcome form budget table name bytes
