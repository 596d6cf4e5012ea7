-- A log that was taken.
use Rattle.std.proofs.Common.{ℕ, List, Option}
use Rattle.outside.specs.Shelves.{Files}
use Rattle.entry_reading.specs.Consuming.{HasTakenEntry, IsRefusedEntry}
use Rattle.event_log.specs.declared.event.LogFault.{LogFault}
use Rattle.term_sets.specs.Memories.{PoolValue}
use Rattle.log_judge.specs.States.{JudgeValue}
use Rattle.msc_cmd.specs.LogJudging.{JudgeSetting, IsFed, IsJudged, IsJudgedLog, IsRefusedLog}
use Rattle.msc_cmd.specs.declared.log_reading.FedJudge.{FedJudge}
use Rattle.msc_cmd.specs.declared.log_reading.Judged.{Judged}
use Rattle.msc_cmd.specs.declared.log_reading.Judged.TheVariants.{Refused}

-- what takes a log has taken what its judge was fed
pub fed_entry : (setting : JudgeSetting) (files : Option Files) (name : List ℕ) (fed : FedJudge) → HasTakenEntry (λ bytes (f : FedJudge). IsFed setting bytes f.judge) files name fed → HasTakenEntry (IsFed setting) files name fed.judge
fed_entry setting files name fed h = record { bytes = h.bytes; held = h.held; taken = h.taken }

-- to its end
pub log_end : (setting : JudgeSetting) (files : Option Files) (name : List ℕ) (judge : JudgeValue PoolValue) (judged : Judged) → ((bytes : List ℕ) → IsFed setting bytes judge → IsJudged setting.table setting.chart setting.form setting.budget bytes judged)
    → HasTakenEntry (IsFed setting) files name judge → IsJudgedLog setting files name judged
log_end setting files name judge judged ends h = record { bytes = h.bytes; held = h.held; is = ends h.bytes h.taken }

-- to its first fault
pub log_refused : (setting : JudgeSetting) (files : Option Files) (name : List ℕ) (fault : LogFault) → IsRefusedEntry (IsRefusedLog setting.form) files name fault → IsJudgedLog setting files name (Refused fault)
log_refused setting files name fault h = record { bytes = h.bytes; held = h.held; is = h.refused }
