-- What a label's text says.
use Rattle.std.specs.Prelude.{ℕ, List}
use Rattle.msc_base.specs.declared.label.Label.{Label}
use Rattle.msc_base.specs.Only.{Only}
use Rattle.msc_events.specs.LogEvents.{ReadsEvent}
use Rattle.event_log.specs.Logs.{log_rules}
use Rattle.event_log.specs.Meanings.{LineSays}
use Rattle.event_log.specs.Objects.{Spelled, IsAllowed}
use Rattle.event_log.specs.declared.event.LogForm.TheVariants.{Lines}
use Rattle.event_log.specs.declared.event.Version.{Version}
use Rattle.event_log.specs.declared.line.Line.TheVariants.{Event}

-- the tokens that the bytes spell are the event of a log with this label
abbrev pub IsEventText : List ℕ → Label → Type 0
IsEventText bytes label = Spelled ReadsEvent bytes label

-- the bytes are a text of the label, and of no other
abbrev pub SaysLabel : List ℕ → Label → Type 0
SaysLabel bytes label = Only (IsEventText bytes) label

-- the bytes, as a line of a log whose version has the label's kind, say its event
abbrev pub IsLineOf : List ℕ → Label → Type 0
IsLineOf bytes label = (version : Version) (number : ℕ) → IsAllowed version label.kind → LineSays log_rules Lines version number bytes (Event label)
