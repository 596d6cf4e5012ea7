-- What a reader of a log holds.
use Rattle.std.specs.Prelude.{◌≡◌, ℕ, Bool, List, Option}
use Rattle.label_table.specs.Labels.{label_number}
use Rattle.event_log.specs.Logs.{log_rules}
use Rattle.event_log.specs.RuledStates as ruled
use Rattle.line_events.specs.declared.event.LineEvent.{LineEvent}
use Rattle.event_log.specs.declared.numbering.NumberedEvent.{NumberedEvent}
use Rattle.msc_base.specs.declared.label.Label.{Label}
use Rattle.event_log.specs.declared.event.LogFault.{LogFault}
use Rattle.event_log.specs.declared.event.LogForm.{LogForm}

-- the event without its number
abbrev pub event_of : NumberedEvent → LineEvent
event_of e = e.event

-- it has the number of its label
abbrev pub IsNumbered : List Label → Unit {0} → NumberedEvent → Type 0
IsNumbered labels met e = e.number ≡ label_number labels e.event.label

abbrev pub LogState : Type 0
LogState = ruled.ReaderState LineEvent (Unit {0})

-- no fault so far: the bytes have been read to the end of their last whole line
abbrev pub IsGoing : LogForm → List ℕ → ℕ → LogState → Type 0
IsGoing form bytes n s = ruled.IsGoing log_rules form bytes n s

-- the state with this fault, which has been fed these bytes
abbrev pub HoldsAt : Option LogFault → Bool → LogForm → List ℕ → ℕ → LogState → Type 0
HoldsAt fault finished form bytes n s = ruled.HoldsAt log_rules fault finished form bytes n s

-- the reader was made for this form, has been fed these bytes, and has handed out so many events
abbrev pub Fed : LogForm → List ℕ → ℕ → LogState → Type 0
Fed form bytes n s = ruled.Fed log_rules form bytes n s

-- the log has this fault or none, and no other; its events are those that the bytes hold
abbrev pub IsFaultOf : LogForm → Bool → List ℕ → Option LogFault → Type 0
IsFaultOf form goes_on bytes fault = ruled.IsFaultOf log_rules form goes_on bytes fault

-- the answer is this fault or none; want of memory says nothing
abbrev pub IsAnswer : LogForm → Bool → List ℕ → Option LogFault → Type 0
IsAnswer form goes_on bytes fault = ruled.IsAnswer log_rules form goes_on bytes fault
