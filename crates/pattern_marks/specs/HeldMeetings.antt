-- Serves private contracts alone.
-- The events so far as code holds them: by their numbers, with those that ties begin behind.
use Rattle.std.specs.Prelude.{ℕ, suc, ◌+◌, ◌-◌, ◌≡◌, ◌≤◌, ◌<◌, ◌↔◌, Bool, true, false, List, [], ◌∷◌, ◌++◌, Option, Some, None, max, min, length, replicate, reverse, get_or, slice_get, slice_set}
use Rattle.msc_base.specs.declared.label.Pair.{Pair}
use Rattle.chart_term.specs.TermPatterns.{pairs}
use Rattle.certificates.specs.Certificates.{PlacedEvent}
use Rattle.pattern_marks.specs.Marks.{Sign}
use Rattle.pattern_marks.specs.Tests.{DoTiesGo}
use Rattle.pattern_marks.specs.declared.ties.Met.{Met}
use Rattle.pattern_marks.specs.declared.ties.Span.{Span}

-- the events, for each number how many there were with the last of it, and how many before each tie that has begun, the innermost last
pub record HeldMeetings : Type 0 where
  pub met : List Met
  pub latest : List ℕ
  pub begun : List ℕ

-- 0 where none has the number
abbrev pub latest_of : HeldMeetings → ℕ → ℕ
latest_of s n = get_or s.latest n 0

-- the count of the number is put in, in a longer list where there are too few
abbrev pub put_latest : List ℕ → ℕ → ℕ → List ℕ
put_latest ns n c = slice_set (ns ++ replicate (n + 1 - length ns) 0) n c

-- one event more
abbrev pub met_one : ℕ → ℕ → HeldMeetings → HeldMeetings
met_one n p s = record {
  met = s.met ++ record { place = p; number = n; before = latest_of s n } ∷ [];
  latest = put_latest s.latest n (length s.met + 1);
  begun = s.begun;
}

-- of the first k events the last with the number n is the bth; there is none where b is 0
pub record IsLatest (ms : List Met) (n k b : ℕ) : Type 0 where
  pub within : b ≤ k
  pub here : (i : ℕ) → b ≡ suc i → (m : Met) × (slice_get ms i ≡ Some m) × (m.number ≡ n)
  pub none : (i : ℕ) (m : Met) → b ≤ i → i < k → slice_get ms i ≡ Some m → m.number ≡ n → ⊥

-- from each event the one of its number before it is known, and from each number its last event
pub record AreLinked (s : HeldMeetings) : Type 0 where
  pub from_number : (n : ℕ) → IsLatest s.met n (length s.met) (latest_of s n)
  pub from_event : (k : ℕ) (m : Met) → slice_get s.met k ≡ Some m → IsLatest s.met m.number k m.before

-- ---- places of the events with a number

abbrev pub wider : Option Span → ℕ → Span
wider None p = record { least = p; greatest = p }
wider (Some s) p = record { least = min s.least p; greatest = max s.greatest p }

-- one of them, from an index on, has the place
pub record HasPlace (ms : List Met) (n from p : ℕ) : Type 0 where
  pub index : ℕ
  pub event : Met
  pub behind : from ≤ index
  pub held : slice_get ms index ≡ Some event
  pub number : event.number ≡ n
  pub place : event.place ≡ p

-- from the least to the greatest place of them
pub record SpansThem (ms : List Met) (n from : ℕ) (s : Span) : Type 0 where
  pub least : HasPlace ms n from s.least
  pub greatest : HasPlace ms n from s.greatest
  pub between : (i : ℕ) (m : Met) → from ≤ i → slice_get ms i ≡ Some m → m.number ≡ n → (s.least ≤ m.place) × (m.place ≤ s.greatest)

abbrev pub IsSpan : List Met → ℕ → ℕ → Option Span → Type 0
IsSpan ms n from None = (i : ℕ) (m : Met) → from ≤ i → slice_get ms i ≡ Some m → m.number ≡ n → ⊥
IsSpan ms n from (Some s) = SpansThem ms n from s

-- all of the first are before all of the second
abbrev pub Precede : Option Span → Option Span → Type 0
Precede None t = Unit {0}
Precede (Some s) None = Unit {0}
Precede (Some s) (Some t) = s.greatest < t.least

-- an event has the number b, counted from 1
abbrev pub IsSought : List Met → ℕ → ℕ → Type 0
IsSought ms n b = (i : ℕ) → b ≡ suc i → (m : Met) × (slice_get ms i ≡ Some m) × (m.number ≡ n)

-- ---- pairs

-- all events of the first number are before all of the second, from an index on
abbrev pub GoesForward : List Met → ℕ → Pair → Type 0
GoesForward ms from p = (i k : ℕ) (m l : Met) → from ≤ i → from ≤ k → slice_get ms i ≡ Some m → slice_get ms k ≡ Some l → m.number ≡ p.first → l.number ≡ p.second → m.place < l.place

-- so it is for each of the first pairs
abbrev pub GoForward : List Met → ℕ → List Pair → ℕ → Type 0
GoForward ms from ps count = (j : ℕ) (p : Pair) → j < count → slice_get ps j ≡ Some p → GoesForward ms from p

-- so it is for pairs of numbers
abbrev pub DoMetGo : List (ℕ × ℕ) → ℕ → List Met → Type 0
DoMetGo q from ms = (i k : ℕ) (m l : Met) → from ≤ i → from ≤ k → slice_get ms i ≡ Some m → slice_get ms k ≡ Some l → pairs q m.number l.number ≡ true → m.place < l.place

-- the innermost tie ends, of which so many events were before
pub record HasEnded (from : ℕ) (old new : HeldMeetings) : Type 0 where
  pub begun : old.begun ≡ new.begun ++ from ∷ []
  pub met : new.met ≡ old.met
  pub latest : new.latest ≡ old.latest

-- if one has begun
abbrev pub Ends : Option ℕ → HeldMeetings → HeldMeetings → Type 0
Ends None old new = old.begun ≡ []
Ends (Some from) old new = HasEnded from old new

-- ---- the events that are held

abbrev pub IsOf : PlacedEvent → Met → Type 0
IsOf d m = (m.number ≡ d.event.number) × (m.place ≡ d.place)

abbrev pub AreOf : List PlacedEvent → List Met → Type 0
AreOf [] [] = Unit {0}
AreOf [] (m ∷ ms) = ⊥
AreOf (d ∷ ds) [] = ⊥
AreOf (d ∷ ds) (m ∷ ms) = IsOf d m × AreOf ds ms

-- these events are held, and ties have begun behind so many, the innermost first
pub record AreHeld (ds : List PlacedEvent) (ns : List ℕ) (s : HeldMeetings) : Type 0 where
  pub events : AreOf ds s.met
  pub begun : reverse s.begun ≡ ns

-- from what is held on the test says the same of what comes behind the sign
pub record LeadsOn (m : Sign) (ds : List PlacedEvent) (ns : List ℕ) (new : HeldMeetings) : Type 0 where
  pub linked : AreLinked new
  pub events : List PlacedEvent
  pub counts : List ℕ
  pub held : AreHeld events counts new
  pub same : (ms : List Sign) → DoTiesGo ds ns (m ∷ ms) ↔ DoTiesGo events counts ms

abbrev pub GoesOn : Bool → Sign → List PlacedEvent → List ℕ → HeldMeetings → Type 0
GoesOn true m ds ns new = LeadsOn m ds ns new
GoesOn false m ds ns new = (ms : List Sign) → DoTiesGo ds ns (m ∷ ms) → ⊥

-- so it is for the sign of a mark
abbrev pub TakesOn : Bool → Sign → HeldMeetings → HeldMeetings → Type 0
TakesOn goes m old new = (ds : List PlacedEvent) (ns : List ℕ) → AreHeld ds ns old → GoesOn goes m ds ns new
