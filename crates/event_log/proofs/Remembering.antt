-- What is known of lines stays so behind each step.
use Rattle.std.proofs.Common.{◌<◌, ◌≤◌, ◌+◌, ◌++◌, List, ℕ, [], ◌∷◌, length, arith}
use Rattle.std.proofs.lemmas.List.Elements.{All-push}
use Rattle.std.proofs.lemmas.List.Sums.{sum_by_push}
use Rattle.msc_base.specs.declared.label.Label.{Label}
use Rattle.event_log.specs.Meanings.{LineSays}
use Rattle.event_log.specs.Rules.{Rules}
use Rattle.event_log.specs.Memories.{SaysBehind, IsKnown, AreKnown, line_bytes}
use Rattle.event_log.specs.declared.event.LogForm.{LogForm}
use Rattle.event_log.specs.declared.event.Version.{Version}
use Rattle.event_log.specs.declared.line.Line.{Line}
use Rattle.event_log.specs.declared.line.Line.TheVariants.{Blank, VersionLine, Event, NoEvent}
use Rattle.event_log.specs.declared.line_memory.KnownLine.{KnownLine}

-- what a line says behind the first, it says in each line behind the first
pub says_behind : {S E K : Type 0} (rules : Rules S E K) (form : LogForm) (version : Version) (number : ℕ) (line : List ℕ) (m : Line S) → 1 < number → LineSays rules form version number line m
    → SaysBehind rules form version line m
says_behind rules form version number line Blank lt says k more = says
says_behind rules form version number line (VersionLine stated) lt says k more = absurd (omega (arith, says.1.0))
says_behind rules form version number line (Event event) lt says k more = (says.0, (λ first. absurd (omega (arith, first)), says.1.1))
says_behind rules form version number line NoEvent lt says k more = (says.0, (λ first. absurd (omega (arith, first)), says.1.1))

-- known lines stay so with one more, and have no more bytes than it has
pub known_push : {S E K : Type 0} (rules : Rules S E K) (labels : List Label) (form : LogForm) (version : Version) (lines : List (KnownLine S)) (line : KnownLine S) (bytes : ℕ) → AreKnown rules labels form version lines
    → IsKnown rules labels form version line → line_bytes lines ≤ bytes → AreKnown rules labels form version (lines ++ line ∷ []) × (line_bytes (lines ++ line ∷ []) ≤ bytes + length line.bytes.items)
known_push {S} rules labels form version lines line bytes known is few = (
  All-push (IsKnown rules labels form version) lines line known is,
  omega (arith, few, sum_by_push (λ (l : KnownLine S). length l.bytes.items) lines line),
)
