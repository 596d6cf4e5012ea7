-- What a reader of a log of any kind holds.
use Rattle.std.specs.Prelude.{◌≡◌, ◌<◌, ◌≤◌, ◌+◌, ◌⊎◌, ℕ, Bool, true, false, not, List, [], ◌∷◌, ◌++◌, length, Option, Some, None, Result, Ok, Err, ◌↔◌, slice_get}
use Rattle.msc_base.specs.declared.limits.TheConstants.Limits.{LINE_BYTES, LOG_BYTES, LOG_EVENTS}
use Rattle.event_log.specs.Lines.{cut_of, lines_of}
use Rattle.event_log.specs.Meanings.{LineSays}
use Rattle.event_log.specs.RuledLogs.{Stage, first_stage, PassesLines, Reaches, LogOf, HoldsEvent}
use Rattle.event_log.specs.Rules.{Rules}
use Rattle.msc_base.specs.declared.label.Label.{Label}
use Rattle.event_log.specs.declared.event.LogFault.{LogFault}
use Rattle.event_log.specs.declared.event.LogFault.TheVariants as fault
use Rattle.event_log.specs.declared.event.LogForm.{LogForm}
use Rattle.event_log.specs.declared.event.Version.{Version}
use Rattle.event_log.specs.declared.line.Line.{Line}
use Rattle.event_log.specs.declared.line.Line.TheVariants.{Blank, VersionLine, Event, NoEvent}

pub record ReaderState (E K : Type 0) : Type 0 where
  pub form : LogForm
  -- the labels that have numbers
  pub labels : List Label
  -- the log's version, as far as it has been read
  pub version : Version
  -- the number of the line that is being read
  pub number : ℕ
  -- how many bytes have been taken
  pub count : ℕ
  -- how many events have been read
  pub read : ℕ
  -- what of the events decides which may follow
  pub met : K
  -- the bytes of the line so far
  pub line : List ℕ
  -- the events that haven't been handed out
  pub waiting : List E
  pub fault : Option LogFault
  -- whether the text has ended
  pub finished : Bool

-- of these events the first n have been handed out, and the others wait
pub record HandsOut {E : Type 0} (events : List E) (n : ℕ) (waiting : List E) : Type 0 where
  pub handed : List E
  pub are : events ≡ handed ++ waiting
  pub count : length handed ≡ n

-- the state stands at this stage, with the first n events handed out
pub record StandsAt {E K : Type 0} (t : Stage E K) (n : ℕ) (s : ReaderState E K) : Type 0 where
  pub version_is : s.version ≡ t.version
  pub number_is : s.number ≡ t.number
  pub read_is : s.read ≡ length t.events
  pub met_is : s.met ≡ t.met
  pub events : HandsOut t.events n s.waiting

-- the state behind a line that passes
abbrev pub next_line : {E K : Type 0} → ReaderState E K → Version → ℕ → K → List E → ReaderState E K
next_line s version read met waiting = record {
  form = s.form;
  labels = s.labels;
  version = version;
  number = s.number + 1;
  count = s.count;
  read = read;
  met = met;
  line = [];
  waiting = waiting;
  fault = s.fault;
  finished = s.finished;
}

-- the state takes a line that says this
abbrev pub Takes : {S E K : Type 0} → Rules S E K → ReaderState E K → Line S → ReaderState E K → Type 0
Takes r s Blank t = t ≡ next_line s s.version s.read s.met s.waiting
Takes r s (VersionLine (Some version)) t = t ≡ next_line s version s.read s.met s.waiting
Takes r s (VersionLine None) t = ⊥
Takes r s (Event event) t = (s.read < LOG_EVENTS)
    × (t ≡ next_line s s.version (s.read + 1) (r.with_event s.met event) (s.waiting ++ r.event_at event s.number ∷ []))
    × r.has_room s.met event
Takes r s NoEvent t = ⊥

-- the state refuses a line that says this
abbrev pub Refuses : {S E K : Type 0} → Rules S E K → ReaderState E K → Line S → LogFault → Type 0
Refuses r s Blank x = ⊥
Refuses r s (VersionLine (Some version)) x = ⊥
Refuses r s (VersionLine None) x = x ≡ fault.Version s.number
Refuses r s (Event event) x = ((LOG_EVENTS ≤ s.read) × (x ≡ fault.LogLimit s.number))
    ⊎ ((s.read < LOG_EVENTS) × (r.has_room s.met event → ⊥) × (x ≡ fault.TooManySessions s.number))
Refuses r s NoEvent x = x ≡ fault.Syntax s.number

-- the state takes its line, or refuses it
pub record TakesLine {S E K : Type 0} (r : Rules S E K) (s t : ReaderState E K) : Type 0 where
  pub meaning : Line S
  pub says : LineSays r s.form s.version s.number s.line meaning
  pub takes : Takes r s meaning t

pub record RefusesLine {S E K : Type 0} (r : Rules S E K) (s : ReaderState E K) (x : LogFault) : Type 0 where
  pub meaning : Line S
  pub says : LineSays r s.form s.version s.number s.line meaning
  pub refuses : Refuses r s meaning x

-- the state takes bytes of its line, or they make it too long
pub record Grows {E K : Type 0} (s : ReaderState E K) (prefix : List ℕ) (t : ReaderState E K) : Type 0 where
  pub short : length s.line + length prefix ≤ LINE_BYTES
  pub is : t ≡ record s { line = s.line ++ prefix; count = s.count + length prefix }

pub record IsTooLong {E K : Type 0} (s : ReaderState E K) (prefix : List ℕ) (x : LogFault) : Type 0 where
  pub long : LINE_BYTES < length s.line + length prefix
  pub is : x ≡ fault.LongLine s.number

-- the state with one byte more counted
abbrev pub counted : {E K : Type 0} → ReaderState E K → ReaderState E K
counted s = record s { count = s.count + 1 }

-- the state with this line and its end taken at once
abbrev pub whole : {E K : Type 0} → ReaderState E K → List ℕ → ReaderState E K
whole s line = record s { line = line; count = s.count + length line + 1 }

-- the state with this met in place of what it had
abbrev pub with_met : {E K : Type 0} → ReaderState E K → K → ReaderState E K
with_met s met = record s { met = met }

-- no fault so far: the bytes have been read to the end of their last whole line
pub record IsGoing {S E K : Type 0} (r : Rules S E K) (form : LogForm) (bytes : List ℕ) (n : ℕ) (s : ReaderState E K) : Type 0 where
  pub form_is : s.form ≡ form
  pub stage : Stage E K
  pub reads : PassesLines r form (first_stage r) (cut_of bytes).ended stage None
  pub stands : StandsAt stage n s
  pub line_is : s.line ≡ (cut_of bytes).tail
  pub short : length s.line ≤ LINE_BYTES
  pub count_is : s.count ≡ length bytes
  pub within : s.count ≤ LOG_BYTES

-- the events and the fault are those of the log
pub record IsSettled {S E K : Type 0} (r : Rules S E K) (form : LogForm) (goes_on : Bool) (bytes : List ℕ) (n : ℕ) (fault : Option LogFault) (s : ReaderState E K) : Type 0 where
  pub form_is : s.form ≡ form
  pub events : List E
  pub log : LogOf r form goes_on bytes events fault
  pub hands : HandsOut events n s.waiting

-- the events are some of the log's first ones
pub record IsWanting {S E K : Type 0} (r : Rules S E K) (form : LogForm) (goes_on : Bool) (bytes : List ℕ) (n : ℕ) (s : ReaderState E K) : Type 0 where
  pub form_is : s.form ≡ form
  pub stage : Stage E K
  pub reaches : Reaches r form (first_stage r) (lines_of goes_on bytes) stage
  pub hands : HandsOut stage.events n s.waiting

-- the state with this fault, which has been fed these bytes
abbrev pub HoldsAt : {S E K : Type 0} → Rules S E K → Option LogFault → Bool → LogForm → List ℕ → ℕ → ReaderState E K → Type 0
HoldsAt r None false form bytes n s = IsGoing r form bytes n s
HoldsAt r None true form bytes n s = IsSettled r form false bytes n None s
HoldsAt r (Some fault.NoMemory) finished form bytes n s = IsWanting r form (not finished) bytes n s
HoldsAt r (Some x) finished form bytes n s = IsSettled r form (not finished) bytes n (Some x) s

-- the reader was made for this form, has been fed these bytes, and has handed out so many events
abbrev pub Fed : {S E K : Type 0} → Rules S E K → LogForm → List ℕ → ℕ → ReaderState E K → Type 0
Fed r form bytes n s = HoldsAt r s.fault s.finished form bytes n s

-- the fault of an answer
abbrev pub fault_in : {T : Type 0} → Result T LogFault → Option LogFault
fault_in (Ok x) = None
fault_in (Err fault) = Some fault

-- the log has this fault or none, and no other; its events are those that the bytes hold
pub record IsFaultOf {S E K : Type 0} (r : Rules S E K) (form : LogForm) (goes_on : Bool) (bytes : List ℕ) (fault : Option LogFault) : Type 0 where
  pub events : List E
  pub log : LogOf r form goes_on bytes events fault
  pub alone : (es : List E) (other : Option LogFault) → LogOf r form goes_on bytes es other → (es ≡ events) × (other ≡ fault)
  pub held : (n : ℕ) (event : E) → HoldsEvent r form goes_on bytes n event ↔ (slice_get events n ≡ Some event)

-- the answer is this fault or none; want of memory says nothing
abbrev pub IsAnswer : {S E K : Type 0} → Rules S E K → LogForm → Bool → List ℕ → Option LogFault → Type 0
IsAnswer r form goes_on bytes (Some fault.NoMemory) = Unit {0}
IsAnswer r form goes_on bytes x = IsFaultOf r form goes_on bytes x
