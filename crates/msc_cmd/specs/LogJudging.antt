-- Serves private contracts alone.
-- A log as far as it has been judged.
use Rattle.std.specs.Prelude.{◌≡◌, ◌≤◌, ℕ, true, false, List, length, Option, Some}
use Rattle.outside.specs.Shelves.{Files}
use Rattle.msc_base.specs.declared.label.Label.{Label}
use Rattle.msc_base.specs.declared.verdict.Verdict.{Verdict}
use Rattle.msc_base.specs.declared.verdict.Verdict.TheVariants.{Conforms, Fails, Early, TooLarge}
use Rattle.msc_base.specs.declared.limits.TheConstants.Limits.{LOG_BYTES}
use Rattle.event_log.specs.Faults.{IsLogFault}
use Rattle.event_log.specs.States.{IsFaultOf}
use Rattle.event_log.specs.declared.event.LogFault.{LogFault}
use Rattle.event_log.specs.declared.event.LogForm.{LogForm}
use Rattle.term_sets.specs.Memories.{PoolValue}
use Rattle.log_judge.specs.States.{JudgeValue}
use Rattle.msc_meaning.specs.Tables.{Table}
use Rattle.chart_judge.specs.Judging.{IsJudging, IsVerdictOn}
use Rattle.chart_judge.specs.NextLabels.{IsNextOn}
use Rattle.chart_judge.specs.declared.next.Next as chart
use Rattle.judge_report.specs.NextTexts.{next_list}
use Rattle.entry_reading.specs.Reading.{IsHeld}
use Rattle.msc_cmd.specs.Outcomes.{Says, TellsVerdict}
use Rattle.msc_cmd.specs.declared.answer.Reply.{Reply}
use Rattle.msc_cmd.specs.declared.log_reading.Judged.{Judged}
use Rattle.msc_cmd.specs.declared.log_reading.Judged.TheVariants.{Told, Next, Refused}
use Rattle.msc_cmd.specs.declared.log_reading.Wanted.{Wanted}
use Rattle.msc_cmd.specs.declared.log_reading.Wanted.TheVariants.{TheVerdict, NextLabels}

-- what a judge of a log is made for: a chart of a table, a form of log and a budget
pub record JudgeSetting : Type 0 where
  pub table : Table
  pub chart : List ℕ
  pub form : LogForm
  pub budget : ℕ

-- the judge was made for this, has been fed these bytes, and met no fault
abbrev pub IsFed : JudgeSetting → List ℕ → JudgeValue PoolValue → Type 0
IsFed setting bytes judge = IsJudging setting.table setting.chart setting.form setting.budget bytes judge

pub fed_counts : (setting : JudgeSetting) (bytes : List ℕ) (judge : JudgeValue PoolValue) → IsFed setting bytes judge → (judge.reader.count ≡ length bytes) × (judge.reader.count ≤ LOG_BYTES)
fed_counts setting bytes judge fed = (fed.counted.count, fed.counted.within)

-- the bytes are no log of this form: this is their first fault
abbrev pub IsRefusedLog : LogForm → List ℕ → LogFault → Type 0
IsRefusedLog form bytes fault = IsLogFault fault × IsFaultOf form false bytes (Some fault)

-- the bytes are a log, and this is the one verdict on its events, or with it the labels that may come next; or this is their first fault
abbrev pub IsJudged : Table → List ℕ → LogForm → ℕ → List ℕ → Judged → Type 0
IsJudged table chart form budget bytes (Told verdict) = IsVerdictOn table chart form budget bytes verdict
IsJudged table chart form budget bytes (Next next) = IsNextOn table chart form budget bytes next
IsJudged table chart form budget bytes (Refused fault) = IsRefusedLog form bytes fault

-- a fault that is told is no want of memory
abbrev pub IsToldLog : Judged → Type 0
IsToldLog (Told verdict) = Unit {0}
IsToldLog (Next next) = Unit {0}
IsToldLog (Refused fault) = IsLogFault fault

-- it is what is wanted of a log, or a fault
abbrev pub IsWanted : Wanted → Judged → Type 0
IsWanted TheVerdict (Told verdict) = Unit {0}
IsWanted TheVerdict (Next next) = ⊥
IsWanted NextLabels (Told verdict) = ⊥
IsWanted NextLabels (Next next) = Unit {0}
IsWanted wanted (Refused fault) = Unit {0}

-- what a reply says of the labels that may come next: the list of them where the log may go on, else the verdict
abbrev pub SaysNext : Verdict → List Label → ℕ → List ℕ → Type 0
SaysNext (Conforms count) labels = Says (next_list true labels)
SaysNext (Fails number line) labels = TellsVerdict false (Fails number line)
SaysNext (Early count) labels = Says (next_list false labels)
SaysNext (TooLarge number) labels = TellsVerdict false (TooLarge number)

abbrev pub IsNextReply : chart.Next → Reply → Type 0
IsNextReply next reply = SaysNext next.verdict next.labels reply.status reply.text

-- the entry of this name comes to this; its bytes are told where the entries are
pub record IsJudgedLog (setting : JudgeSetting) (files : Option Files) (name : List ℕ) (judged : Judged) : Type 0 where
  pub bytes : List ℕ
  pub held : IsHeld files name bytes
  pub is : IsJudged setting.table setting.chart setting.form setting.budget bytes judged
