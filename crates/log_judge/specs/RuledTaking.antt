-- How the events of a log of any kind are taken from its reader.
use Rattle.std.specs.Prelude.{ℕ, ◌≡◌, Bool, false, List, length, Some, None, slice_get}
use Rattle.msc_base.specs.Only.{Never}
use Rattle.event_log.specs.Faults.{IsLogFault}
use Rattle.event_log.specs.RuledLogs.{HoldsEvent}
use Rattle.event_log.specs.RuledStates.{ReaderState, IsFaultOf, Fed}
use Rattle.event_log.specs.Rules.{Rules}
use Rattle.event_log.specs.declared.event.LogFault.{LogFault}
use Rattle.event_log.specs.declared.event.LogForm.{LogForm}
use Rattle.log_judge.specs.declared.fault.JudgeFault.{JudgeFault}
use Rattle.log_judge.specs.declared.fault.JudgeFault.TheVariants.{Log, NoMemory}

module _ {S E K : Type 0} (r : Rules S E K) where
  -- these are the first events that the bytes hold
  abbrev pub HoldsFirst : LogForm → Bool → List ℕ → List E → Type 0
  HoldsFirst form goes_on bytes events = (n : ℕ) (event : E) → slice_get events n ≡ Some event → HoldsEvent r form goes_on bytes n event

  -- the reader was made for some form, and has handed out so many events of some bytes
  pub record IsCounted (s : ReaderState E K) (n : ℕ) : Type 0 where
    pub form : LogForm
    pub bytes : List ℕ
    pub fed : Fed r form bytes n s

  -- the reader has this fault of the log
  pub record IsFaulty (form : LogForm) (bytes : List ℕ) (fault : LogFault) (s : ReaderState E K) : Type 0 where
    pub is_fault : IsLogFault fault
    pub handed : ℕ
    pub fed : Fed r form bytes handed s
    pub fault_is : s.fault ≡ Some fault
    pub goes_on : s.finished ≡ false

  -- what stands behind a fault of the judge; nothing is known after want of memory
  abbrev pub IsBehind : JudgeFault → LogForm → List ℕ → ReaderState E K → Type 0
  IsBehind (Log fault) form bytes s = IsFaulty form bytes fault s
  IsBehind NoMemory form bytes s = Unit {0}

  -- whoever follows the log has taken so many of its events as `Took` says
  module _ {T : Type 0} (Took : List E → T → Type 0) where
    -- the reader, which has no fault, has been fed the bytes, and the events that it handed out were taken
    pub record HasTaken (form : LogForm) (goes_on : Bool) (bytes : List ℕ) (events : List E) (s : ReaderState E K) (t : T) : Type 0 where
      pub fed : Fed r form bytes (length events) s
      pub first : HoldsFirst form goes_on bytes events
      pub faultless : s.fault ≡ None
      pub taken : Took events t

    -- some events were taken
    pub record TakesSome (form : LogForm) (goes_on : Bool) (bytes : List ℕ) (s : ReaderState E K) (t : T) : Type 0 where
      pub events : List E
      pub has : HasTaken form goes_on bytes events s t

    -- all events were taken that the bytes hold
    pub record TakesAll (form : LogForm) (goes_on : Bool) (bytes : List ℕ) (s : ReaderState E K) (t : T) : Type 0 where
      pub events : List E
      pub has : HasTaken form goes_on bytes events s t
      pub all : Never (HoldsEvent r form goes_on bytes (length events))

    -- the bytes are a log, and its events were taken
    pub record TakesLog (form : LogForm) (bytes : List ℕ) (t : T) : Type 0 where
      pub log : IsFaultOf r form false bytes None
      pub taken : Took log.events t
