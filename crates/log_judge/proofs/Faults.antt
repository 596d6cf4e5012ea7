-- The faults of a log of any kind, told by its judge.
use Rattle.std.specs.Prelude.{ℕ, ◌≡◌, Bool, true, false, List, [], ◌++◌, Some}
use Rattle.std.proofs.Common.{subst, append-nil}
use Rattle.event_log.specs.Faults.{IsLogFault}
use Rattle.event_log.specs.RuledStates.{ReaderState, IsFaultOf, IsAnswer}
use Rattle.event_log.specs.Rules.{Rules}
use Rattle.event_log.specs.declared.event.LogFault.{LogFault}
use Rattle.event_log.specs.declared.event.LogFault.TheVariants as fault
use Rattle.event_log.specs.declared.event.LogForm.{LogForm}
use Rattle.event_log.proofs.Answers.{fed_answer, fed_again, fed_is, is_fed, holds_lasting}
use Rattle.log_judge.specs.Faults.{judge_fault}
use Rattle.log_judge.specs.RuledFaults.{IsJudgeFault}
use Rattle.log_judge.specs.RuledTaking.{IsFaulty, IsBehind}
use Rattle.log_judge.specs.declared.fault.JudgeFault.{JudgeFault}
use Rattle.log_judge.specs.declared.fault.JudgeFault.TheVariants.{Log, NoMemory}

module _ {S E K : Type 0} (r : Rules S E K) where
  -- a fault of the reader
  pub answered_fault : (f : LogFault) (form : LogForm) (g : Bool) (b : List ℕ) → IsAnswer r form g b (Some f) → IsJudgeFault r form g b (judge_fault f)
  answered_fault (fault.Syntax l) form g b h = (tt, h)
  answered_fault (fault.LongLine l) form g b h = (tt, h)
  answered_fault (fault.LogLimit l) form g b h = (tt, h)
  answered_fault (fault.TooManySessions l) form g b h = (tt, h)
  answered_fault (fault.Version l) form g b h = (tt, h)
  answered_fault fault.NoMemory form g b h = tt

  -- behind a fault more bytes change nothing
  faulty_on : (form : LogForm) (b p : List ℕ) (f : LogFault) (s : ReaderState E K) → IsFaulty r form b f s → IsFaulty r form (b ++ p) f s
  faulty_on form b p f s h = record {
    is_fault = h.is_fault;
    handed = h.handed;
    fed = fed_is r (Some f) false form (b ++ p) h.handed s h.fault_is h.goes_on (fed_again r f form b p h.handed s h.fault_is h.goes_on h.fed);
    fault_is = h.fault_is;
    goes_on = h.goes_on;
  }

  pub behind_on : (f : JudgeFault) (form : LogForm) (b p : List ℕ) (s : ReaderState E K) → IsBehind r f form b s → IsBehind r f form (b ++ p) s
  behind_on (Log f) form b p s h = faulty_on form b p f s h
  behind_on NoMemory form b p s h = tt

  answer_is : (f : LogFault) (form : LogForm) (g : Bool) (b : List ℕ) → IsLogFault f → IsAnswer r form g b (Some f) → IsFaultOf r form g b (Some f)
  answer_is (fault.Syntax l) form g b i h = h
  answer_is (fault.LongLine l) form g b i h = h
  answer_is (fault.LogLimit l) form g b i h = h
  answer_is (fault.TooManySessions l) form g b i h = h
  answer_is (fault.Version l) form g b i h = h
  answer_is fault.NoMemory form g b i h = absurd i

  -- it is the first one of the bytes, whatever follows
  pub behind_decided : (f : JudgeFault) (form : LogForm) (b : List ℕ) (s : ReaderState E K) → IsBehind r f form b s → IsJudgeFault r form true b f
  behind_decided (Log f) form b s h = (h.is_fault, answer_is f form true b h.is_fault (fed_answer r (Some f) false form b h.handed s h.fault_is h.goes_on h.fed))
  behind_decided NoMemory form b s h = tt

  pub behind_lasts : (f : JudgeFault) (form : LogForm) (b more : List ℕ) (s : ReaderState E K) → IsBehind r f form b s → IsJudgeFault r form false (b ++ more) f
  behind_lasts (Log f) form b more s h = (h.is_fault, answer_is f form false (b ++ more) h.is_fault (holds_lasting r f form b more h.handed s (is_fed r (Some f) false form b h.handed s h.fault_is h.goes_on h.fed)))
  behind_lasts NoMemory form b more s h = tt

  -- and of the whole text
  pub behind_whole : (f : JudgeFault) (form : LogForm) (b : List ℕ) (s : ReaderState E K) → IsBehind r f form b s → IsJudgeFault r form false b f
  behind_whole f form b s h = subst (λ (c : List ℕ). IsJudgeFault r form false c f) (append-nil b) (behind_lasts f form b [] s h)
