-- What a numbered log has been fed.
use Rattle.std.specs.Prelude.{ℕ, ◌≡◌, Bool, false, true, List, Option, Some, None}
use Rattle.msc_base.specs.declared.label.Label.{Label}
use Rattle.event_log.specs.Logs.{log_rules}
use Rattle.event_log.specs.States.{LogState}
use Rattle.event_log.specs.declared.event.LogForm.{LogForm}
use Rattle.line_events.specs.declared.event.LineEvent.{LineEvent}
use Rattle.log_judge.specs.RuledTaking as ruled
use Rattle.log_judge.specs.declared.fault.JudgeFault.{JudgeFault}
use Rattle.numbered_log.specs.Numbers.{numbers_in}

-- the reader, the numbers gathered, and the fault that was met
pub record NumberedValue : Type 0 where
  pub reader : LogState
  pub numbers : List ℕ
  pub fault : Option JudgeFault

-- the numbers are those of the events
abbrev pub AreOf : List Label → List LineEvent → List ℕ → Type 0
AreOf table events numbers = numbers ≡ numbers_in table events

-- some events were taken from the reader
abbrev pub TakesSome : List Label → LogForm → Bool → List ℕ → LogState → List ℕ → Type 0
TakesSome table form goes_on bytes s numbers = ruled.TakesSome log_rules (AreOf table) form goes_on bytes s numbers

-- all events that the bytes hold
abbrev pub TakesAll : List Label → LogForm → Bool → List ℕ → LogState → List ℕ → Type 0
TakesAll table form goes_on bytes s numbers = ruled.TakesAll log_rules (AreOf table) form goes_on bytes s numbers

-- the bytes are a log, and the numbers are those of its events
abbrev pub TakesLog : List Label → LogForm → List ℕ → List ℕ → Type 0
TakesLog table form bytes numbers = ruled.TakesLog log_rules (AreOf table) form bytes numbers

-- all events of the lines that have ended were taken
pub record IsGoing (table : List Label) (form : LogForm) (bytes : List ℕ) (log : NumberedValue) : Type 0 where
  pub goes_on : log.reader.finished ≡ false
  pub labels : log.reader.labels ≡ table
  pub takes : TakesAll table form true bytes log.reader log.numbers

-- with this fault, or without one
abbrev pub Stands : Option JudgeFault → List Label → LogForm → List ℕ → NumberedValue → Type 0
Stands None table form bytes log = IsGoing table form bytes log
Stands (Some fault) table form bytes log = ruled.IsBehind log_rules fault form bytes log.reader

-- made for these labels and this form of log, it has been fed these bytes
abbrev pub Fed : List Label → LogForm → List ℕ → NumberedValue → Type 0
Fed table form bytes log = Stands log.fault table form bytes log
