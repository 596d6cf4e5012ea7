-- What a line of a log says.
use Rattle.std.specs.Prelude.{◌≡◌, ◌<◌, ◌≤◌, ◌⊎◌, ℕ, List, [], ◌∷◌, length, All, Option, Some, None, codes, if◌then◌else◌}
use Rattle.std.specs.Str.{bytes_eq}
use Rattle.msc_base.specs.declared.label.Label.{Label}
use Rattle.msc_base.specs.Only.{Only, Never}
use Rattle.msc_tokens.specs.Spelling.{IsBlank, Spells}
use Rattle.msc_events.specs.LogEvents.{ReadsEvent}
use Rattle.event_log.specs.Objects.{Spelled, Written, IsAllowed, IsVersionObject}
use Rattle.event_log.specs.Rules.{Rules}
use Rattle.event_log.specs.declared.event.LogForm.{LogForm}
use Rattle.event_log.specs.declared.event.LogForm.TheVariants.{Lines, Json}
use Rattle.event_log.specs.declared.event.Version.{Version}
use Rattle.event_log.specs.declared.event.Version.TheVariants.{First, Second}
use Rattle.event_log.specs.declared.line.Line.{Line}
use Rattle.event_log.specs.declared.line.Line.TheVariants.{Blank, VersionLine, Event, NoEvent}

abbrev pub IsDigit : ℕ → Type 0
IsDigit b = (48 ≤ b) × (b ≤ 57)

-- the line passes: it has blanks alone, and in the text form also notes
abbrev pub IsBlankLine : LogForm → List ℕ → Type 0
IsBlankLine Lines line = Spells line []
IsBlankLine Json line = All IsBlank line

-- the version that these digits state, if it is one of the two
abbrev pub version_of : List ℕ → Option Version
version_of digits = (if bytes_eq digits (codes "1") then Some First else if bytes_eq digits (codes "2") then Some Second else None)

-- the tokens are `log`, digits and `;`, and state this version
pub record StatesVersion (tokens : List (List ℕ)) (stated : Option Version) : Type 0 where
  pub digits : List ℕ
  pub are : tokens ≡ codes "log" ∷ digits ∷ codes ";" ∷ []
  pub some : 0 < length digits
  pub each : All IsDigit digits
  pub stated_is : stated ≡ version_of digits

-- the tokens are this event
pub record IsEventOf (version : Version) (tokens : List (List ℕ)) (label : Label) : Type 0 where
  pub reads : ReadsEvent tokens label
  pub allowed : IsAllowed version label.kind

-- the line states a version: one of the two, or another
abbrev pub IsVersionLine : LogForm → List ℕ → Option Version → Type 0
IsVersionLine Lines line stated = Spelled StatesVersion line stated
IsVersionLine Json line stated = Written IsVersionObject line stated

-- the line is this event
abbrev pub IsEventLine : {S E K : Type 0} → Rules S E K → LogForm → Version → List ℕ → S → Type 0
IsEventLine r Lines version line event = Spelled (r.tokens_are version) line event
IsEventLine r Json version line event = Written (r.value_is version) line event

-- what a line says by the versions that it states and the events that it is: the first states a version, else it is an event, else bad
abbrev pub SaysBy : {S : Type 0} → (Option Version → Type 0) → (S → Type 0) → ℕ → Line S → Type 0
SaysBy states is number Blank = ⊥
SaysBy states is number (VersionLine stated) = (number ≡ 1) × Only states stated
SaysBy states is number (Event event) = (number ≡ 1 → Never states) × Only is event
SaysBy states is number NoEvent = (number ≡ 1 → Never states) × Never is

-- what the line says, which has this number, in a log of this version
abbrev pub LineSays : {S E K : Type 0} → Rules S E K → LogForm → Version → ℕ → List ℕ → Line S → Type 0
LineSays r form version number line Blank = IsBlankLine form line
LineSays r form version number line (VersionLine stated) = (IsBlankLine form line → ⊥) × SaysBy (IsVersionLine form line) (IsEventLine r form version line) number (VersionLine stated)
LineSays r form version number line (Event event) = (IsBlankLine form line → ⊥) × SaysBy (IsVersionLine form line) (IsEventLine r form version line) number (Event event)
LineSays r form version number line NoEvent = (IsBlankLine form line → ⊥) × SaysBy (IsVersionLine form line) (IsEventLine r form version line) number NoEvent
