-- Serves private contracts alone.
-- What is remembered of lines.
use Rattle.std.specs.Prelude.{◌≡◌, ◌<◌, ℕ, List, Option, All, length, sum_by}
use Rattle.label_table.specs.Labels.{label_number}
use Rattle.msc_base.specs.declared.label.Label.{Label}
use Rattle.event_log.specs.Meanings.{LineSays}
use Rattle.event_log.specs.Rules.{Rules}
use Rattle.event_log.specs.declared.event.LogForm.{LogForm}
use Rattle.event_log.specs.declared.event.Version.{Version}
use Rattle.event_log.specs.declared.line.Line.{Line}
use Rattle.event_log.specs.declared.line.Line.TheVariants.{Blank, VersionLine, Event, NoEvent}
use Rattle.event_log.specs.declared.line_memory.KnownLine.{KnownLine}

-- how lines are read: the form of their log, its version, and the labels that have numbers
pub record LineSort : Type 0 where
  pub form : LogForm
  pub version : Version
  pub labels : List Label

-- the number is that of the label of the line's event
abbrev pub IsNumberIn : {S E K : Type 0} → Rules S E K → List Label → Line S → Option ℕ → Type 0
IsNumberIn r labels Blank number = Unit {0}
IsNumberIn r labels (VersionLine stated) number = Unit {0}
IsNumberIn r labels (Event event) number = number ≡ label_number labels (r.label_of event)
IsNumberIn r labels NoEvent number = Unit {0}

-- what the line says wherever it stands behind the first
abbrev pub SaysBehind : {S E K : Type 0} → Rules S E K → LogForm → Version → List ℕ → Line S → Type 0
SaysBehind r form version line meaning = (number : ℕ) → 1 < number → LineSays r form version number line meaning

-- a line with what it says wherever it stands behind the first, and with its number
pub record IsKnown {S E K : Type 0} (r : Rules S E K) (labels : List Label) (form : LogForm) (version : Version) (line : KnownLine S) : Type 0 where
  pub says : SaysBehind r form version line.bytes.items line.meaning.says
  pub number : IsNumberIn r labels line.meaning.says line.meaning.number

-- each line is such a one
abbrev pub AreKnown : {S E K : Type 0} → Rules S E K → List Label → LogForm → Version → List (KnownLine S) → Type 0
AreKnown r labels form version lines = All (IsKnown r labels form version) lines

-- how many bytes the lines have
abbrev pub line_bytes : {S : Type 0} → List (KnownLine S) → ℕ
line_bytes {S} lines = sum_by (λ (l : KnownLine S). length l.bytes.items) lines
