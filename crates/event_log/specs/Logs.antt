-- The events of a log, and its first fault.
use Rattle.std.specs.Prelude.{ℕ, Bool, List, Option}
use Rattle.msc_base.specs.declared.label.Label.{Label}
use Rattle.event_log.specs.Meanings.{IsEventOf}
use Rattle.event_log.specs.Objects.{IsEventObject}
use Rattle.event_log.specs.RuledLogs as ruled
use Rattle.event_log.specs.Rules.{Rules}
use Rattle.line_events.specs.declared.event.LineEvent.{LineEvent}
use Rattle.event_log.specs.declared.event.LogFault.{LogFault}
use Rattle.event_log.specs.declared.event.LogForm.{LogForm}
use Rattle.event_log.specs.declared.line.Line.{Line}

-- a line's event is its label, and has room behind any others
abbrev pub log_rules : Rules Label LineEvent (Unit {0})
log_rules = record {
  tokens_are = IsEventOf;
  value_is = IsEventObject;
  label_of = λ label. label;
  event_at = λ label line. record { label = label; line = line };
  none_met = tt;
  with_event = λ met label. met;
  has_room = λ met label. Unit {0};
}

abbrev pub Stage : Type 0
Stage = ruled.Stage LineEvent (Unit {0})

abbrev pub first_stage : Stage
first_stage = ruled.first_stage log_rules

abbrev pub After : Stage → Line Label → Stage → Type 0
After s meaning t = ruled.After log_rules s meaning t

abbrev pub Passes : LogForm → Stage → List ℕ → Stage → Type 0
Passes form s line t = ruled.Passes log_rules form s line t

abbrev pub PassesLines : LogForm → Stage → List (List ℕ) → Stage → Option LogFault → Type 0
PassesLines form s lines t found = ruled.PassesLines log_rules form s lines t found

abbrev pub Reaches : LogForm → Stage → List (List ℕ) → Stage → Type 0
Reaches form s lines t = ruled.Reaches log_rules form s lines t

-- The log's events up to its first fault, and the fault, if there is one. Of a text that goes on: the events and the fault that are
-- decided within these bytes, whatever follows.
abbrev pub LogOf : LogForm → Bool → List ℕ → List LineEvent → Option LogFault → Type 0
LogOf form goes_on bytes events fault = ruled.LogOf log_rules form goes_on bytes events fault

-- the bytes hold, before any fault, this event as that of this number from 0
abbrev pub HoldsEvent : LogForm → Bool → List ℕ → ℕ → LineEvent → Type 0
HoldsEvent form goes_on bytes n event = ruled.HoldsEvent log_rules form goes_on bytes n event
