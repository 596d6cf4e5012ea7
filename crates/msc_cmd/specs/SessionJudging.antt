-- Serves private contracts alone.
-- A log of sessions as far as it has been judged.
use Rattle.std.specs.Prelude.{◌≡◌, ◌≤◌, ℕ, false, List, length, Option, Some}
use Rattle.outside.specs.Shelves.{Files}
use Rattle.entry_reading.specs.Reading.{IsHeld}
use Rattle.msc_base.specs.declared.limits.TheConstants.Limits.{LOG_BYTES}
use Rattle.event_log.specs.Faults.{IsLogFault}
use Rattle.event_log.specs.RuledStates.{IsFaultOf}
use Rattle.event_log.specs.declared.event.LogFault.{LogFault}
use Rattle.event_log.specs.declared.event.LogForm.{LogForm}
use Rattle.session_log.specs.Sessions.{session_rules}
use Rattle.term_sets.specs.Memories.{PoolValue}
use Rattle.session_judge.specs.States.{SessionsValue}
use Rattle.chart_sessions.specs.Judging.{IsJudgingSessions}
use Rattle.chart_sessions.specs.SessionVerdicts.{IsSessionsOn}
use Rattle.msc_cmd.specs.LogJudging.{JudgeSetting}
use Rattle.msc_cmd.specs.declared.session_reading.SessionsJudged.{SessionsJudged}
use Rattle.msc_cmd.specs.declared.session_reading.SessionsJudged.TheVariants.{Told, Refused}

-- the judge of sessions was made for this, has been fed these bytes, and met no fault
abbrev pub AreFed : JudgeSetting → List ℕ → SessionsValue PoolValue → Type 0
AreFed setting bytes judge = IsJudgingSessions setting.table setting.chart setting.form setting.budget bytes judge

pub fed_counts : (setting : JudgeSetting) (bytes : List ℕ) (judge : SessionsValue PoolValue) → AreFed setting bytes judge → (judge.reader.count ≡ length bytes) × (judge.reader.count ≤ LOG_BYTES)
fed_counts setting bytes judge fed = (fed.counted.count, fed.counted.within)

-- the bytes are no log of sessions in this form: this is their first fault
abbrev pub AreRefused : LogForm → List ℕ → LogFault → Type 0
AreRefused form bytes fault = IsLogFault fault × IsFaultOf session_rules form false bytes (Some fault)

-- the bytes are a log of sessions, and these are the verdicts on them; or this is their first fault
abbrev pub AreJudged : JudgeSetting → List ℕ → SessionsJudged → Type 0
AreJudged setting bytes (Told answers) = IsSessionsOn setting.table setting.chart setting.form setting.budget bytes answers
AreJudged setting bytes (Refused fault) = AreRefused setting.form bytes fault

-- a fault that is told is no want of memory
abbrev pub IsToldOfSessions : SessionsJudged → Type 0
IsToldOfSessions (Told answers) = Unit {0}
IsToldOfSessions (Refused fault) = IsLogFault fault

-- the entry of this name comes to this; its bytes are told where the entries are
pub record IsJudgedEntry (setting : JudgeSetting) (files : Option Files) (name : List ℕ) (judged : SessionsJudged) : Type 0 where
  pub bytes : List ℕ
  pub held : IsHeld files name bytes
  pub is : AreJudged setting bytes judged
