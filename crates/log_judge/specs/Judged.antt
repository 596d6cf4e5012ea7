-- What a log's bytes are for a term: a verdict on the log's events, or the log's first fault.
use Rattle.std.specs.Prelude.{ℕ, Bool, true, false, List, Option, Some, None, Result, Ok, Err}
use Rattle.msc_base.specs.declared.verdict.Verdict.{Verdict}
use Rattle.term_tables.specs.NetValues.{NetsValue}
use Rattle.chart_term.specs.Terms.{Tree}
use Rattle.event_log.specs.Logs.{log_rules}
use Rattle.event_log.specs.States.{IsFaultOf}
use Rattle.event_log.specs.declared.event.LogForm.{LogForm}
use Rattle.trace_judge.specs.Verdicts.{IsTermVerdict, TellsRuns, IsLargest}
use Rattle.log_judge.specs.RuledFaults as ruled
use Rattle.log_judge.specs.declared.fault.JudgeFault.{JudgeFault}

-- the bytes are a log, and this is the verdict on its events
pub record IsJudged (v : NetsValue) (x : Tree) (form : LogForm) (budget : ℕ) (bytes : List ℕ) (verdict : Verdict) : Type 0 where
  pub log : IsFaultOf form false bytes None
  pub verdict_is : IsTermVerdict v x budget log.events verdict
  pub runs : TellsRuns v x log.events verdict

-- the first fault of the bytes, whole or as a text that may go on; want of memory says nothing
abbrev pub IsJudgeFault : LogForm → Bool → List ℕ → JudgeFault → Type 0
IsJudgeFault form goes_on bytes fault = ruled.IsJudgeFault log_rules form goes_on bytes fault

-- the answer is that fault, or there is none
abbrev pub IsJudgeAnswer : LogForm → Bool → List ℕ → Option JudgeFault → Type 0
IsJudgeAnswer form goes_on bytes fault = ruled.IsJudgeAnswer log_rules form goes_on bytes fault

-- the fault of an answer
abbrev pub fault_in : {T : Type 0} → Result T JudgeFault → Option JudgeFault
fault_in (Ok x) = None
fault_in (Err fault) = Some fault

-- the largest weight over the events of all lines that have ended within the bytes
pub record IsLargestOf (v : NetsValue) (x : Tree) (form : LogForm) (budget : ℕ) (bytes : List ℕ) (n : ℕ) : Type 0 where
  pub log : IsFaultOf form true bytes None
  pub largest : IsLargest v x budget log.events n
