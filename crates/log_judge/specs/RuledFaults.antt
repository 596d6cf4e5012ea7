-- The fault of a log of any kind, as its judge tells it.
use Rattle.std.specs.Prelude.{ℕ, Bool, List, Option, Some, None}
use Rattle.event_log.specs.Faults.{IsLogFault}
use Rattle.event_log.specs.RuledStates.{IsFaultOf}
use Rattle.event_log.specs.Rules.{Rules}
use Rattle.event_log.specs.declared.event.LogForm.{LogForm}
use Rattle.log_judge.specs.declared.fault.JudgeFault.{JudgeFault}
use Rattle.log_judge.specs.declared.fault.JudgeFault.TheVariants.{Log, NoMemory}

-- the first fault of the bytes, whole or as a text that may go on; want of memory says nothing
abbrev pub IsJudgeFault : {S E K : Type 0} → Rules S E K → LogForm → Bool → List ℕ → JudgeFault → Type 0
IsJudgeFault r form goes_on bytes (Log fault) = IsLogFault fault × IsFaultOf r form goes_on bytes (Some fault)
IsJudgeFault r form goes_on bytes NoMemory = Unit {0}

-- the answer is that fault, or there is none
abbrev pub IsJudgeAnswer : {S E K : Type 0} → Rules S E K → LogForm → Bool → List ℕ → Option JudgeFault → Type 0
IsJudgeAnswer r form goes_on bytes None = IsFaultOf r form goes_on bytes None
IsJudgeAnswer r form goes_on bytes (Some fault) = IsJudgeFault r form goes_on bytes fault
