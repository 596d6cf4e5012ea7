-- The events of a log of any kind, by the rules of its kind, and its first fault.
use Rattle.std.specs.Prelude.{◌≡◌, ◌<◌, ◌≤◌, ◌+◌, ◌⊎◌, ℕ, Bool, List, [], ◌∷◌, ◌++◌, length, Option, Some, None, if◌then◌else◌, slice_get}
use Rattle.msc_base.specs.declared.limits.TheConstants.Limits.{LINE_BYTES, LOG_EVENTS}
use Rattle.event_log.specs.Lines.{is_within, lines_of}
use Rattle.event_log.specs.Meanings.{LineSays}
use Rattle.event_log.specs.Rules.{Rules}
use Rattle.event_log.specs.declared.event.LogFault.{LogFault}
use Rattle.event_log.specs.declared.event.LogFault.TheVariants as fault
use Rattle.event_log.specs.declared.event.LogForm.{LogForm}
use Rattle.event_log.specs.declared.event.Version.{Version}
use Rattle.event_log.specs.declared.event.Version.TheVariants.{First}
use Rattle.event_log.specs.declared.line.Line.{Line}
use Rattle.event_log.specs.declared.line.Line.TheVariants.{Blank, VersionLine, Event, NoEvent}

-- how far lines have been read: the log's version, the number of the next line, the events so far, and what of them decides which may follow
pub record Stage (E K : Type 0) : Type 0 where
  pub version : Version
  pub number : ℕ
  pub events : List E
  pub met : K

abbrev pub first_stage : {S E K : Type 0} → Rules S E K → Stage E K
first_stage r = record { version = First; number = 1; events = []; met = r.none_met }

abbrev pub IsShort : List ℕ → Type 0
IsShort line = length line ≤ LINE_BYTES

-- a line that says this passes, and is followed by this stage
abbrev pub After : {S E K : Type 0} → Rules S E K → Stage E K → Line S → Stage E K → Type 0
After r s Blank t = t ≡ record { version = s.version; number = s.number + 1; events = s.events; met = s.met }
After r s (VersionLine (Some version)) t = t ≡ record { version = version; number = s.number + 1; events = s.events; met = s.met }
After r s (VersionLine None) t = ⊥
After r s (Event event) t = (length s.events < LOG_EVENTS)
    × (t ≡ record { version = s.version; number = s.number + 1; events = s.events ++ r.event_at event s.number ∷ []; met = r.with_event s.met event })
    × r.has_room s.met event
After r s NoEvent t = ⊥

pub record Passes {S E K : Type 0} (r : Rules S E K) (form : LogForm) (s : Stage E K) (line : List ℕ) (t : Stage E K) : Type 0 where
  pub short : IsShort line
  pub meaning : Line S
  pub says : LineSays r form s.version s.number line meaning
  pub after : After r s meaning t

-- a line that says this has this fault
abbrev pub BreaksLog : {S E K : Type 0} → Rules S E K → Stage E K → Line S → LogFault → Type 0
BreaksLog r s Blank x = ⊥
BreaksLog r s (VersionLine (Some version)) x = ⊥
BreaksLog r s (VersionLine None) x = x ≡ fault.Version s.number
BreaksLog r s (Event event) x = ((LOG_EVENTS ≤ length s.events) × (x ≡ fault.LogLimit s.number))
    ⊎ ((length s.events < LOG_EVENTS) × (r.has_room s.met event → ⊥) × (x ≡ fault.TooManySessions s.number))
BreaksLog r s NoEvent x = x ≡ fault.Syntax s.number

-- the fault of a line: it is too long, else it is that of what the line says
pub data HasLineFault {S E K : Type 0} (r : Rules S E K) (form : LogForm) (s : Stage E K) (line : List ℕ) (x : LogFault) : Type 0 where
  too_long : LINE_BYTES < length line → x ≡ fault.LongLine s.number → HasLineFault r form s line x
  of_meaning : IsShort line → (meaning : Line S) → LineSays r form s.version s.number line meaning → BreaksLog r s meaning x → HasLineFault r form s line x

-- one line after another passes up to this stage, where none is left or the next has this fault
abbrev pub PassesLines : {S E K : Type 0} → Rules S E K → LogForm → Stage E K → List (List ℕ) → Stage E K → Option LogFault → Type 0
PassesLines r form s [] t found = (t ≡ s) × (found ≡ None)
PassesLines {S} {E} {K} r form s (l ∷ ls) t found = ((m : Stage E K) × Passes r form s l m × PassesLines r form m ls t found)
    ⊎ ((t ≡ s) × ((x : LogFault) × (found ≡ Some x) × HasLineFault r form s l x))

-- one line after another passes up to this stage, and more may follow
abbrev pub Reaches : {S E K : Type 0} → Rules S E K → LogForm → Stage E K → List (List ℕ) → Stage E K → Type 0
Reaches r form s [] t = t ≡ s
Reaches {S} {E} {K} r form s (l ∷ ls) t = (t ≡ s) ⊎ ((m : Stage E K) × Passes r form s l m × Reaches r form m ls t)

-- the first fault: that of a line, else the limit of bytes, in the line where the reading stands
abbrev pub limited : {E K : Type 0} → List ℕ → Stage E K → Option LogFault → Option LogFault
limited bytes t (Some x) = Some x
limited bytes t None = (if is_within bytes then None else Some (fault.LogLimit t.number))

-- The log's events up to its first fault, and the fault, if there is one. Of a text that goes on: the events and the fault that are
-- decided within these bytes, whatever follows.
pub record LogOf {S E K : Type 0} (r : Rules S E K) (form : LogForm) (goes_on : Bool) (bytes : List ℕ) (events : List E) (fault : Option LogFault) : Type 0 where
  pub stage : Stage E K
  pub found : Option LogFault
  pub reads : PassesLines r form (first_stage r) (lines_of goes_on bytes) stage found
  pub events_are : events ≡ stage.events
  pub fault_is : fault ≡ limited bytes stage found

-- the bytes hold, before any fault, this event as that of this number from 0
pub record HoldsEvent {S E K : Type 0} (r : Rules S E K) (form : LogForm) (goes_on : Bool) (bytes : List ℕ) (n : ℕ) (event : E) : Type 0 where
  pub stage : Stage E K
  pub reaches : Reaches r form (first_stage r) (lines_of goes_on bytes) stage
  pub at : slice_get stage.events n ≡ Some event
