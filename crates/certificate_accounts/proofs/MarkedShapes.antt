-- A pattern with places, and the same with the places as labels.
use Rattle.std.specs.Prelude.{ℕ, ◌≡◌, refl}
use Rattle.std.proofs.Common.{inl, inr}
use Rattle.msc_base.specs.Patterns.{Position, event_at, empty, one, join, bind}
use Rattle.chart_term.specs.TermPatterns.{Shape, numbered}
use Rattle.chart_term.specs.Terms.{TermEvent}
use Rattle.certificates.specs.Certificates.{PlacedEvent, PlacedShape, placed, place_at}
use Rattle.certificates.proofs.OtherEvents.{with_events, IsAlike}
use Rattle.certificate_accounts.specs.Accounts.{placed_event}

abbrev pub mark : {P : Type 0} → P → PlacedEvent → TermEvent
mark i d = placed_event d.event d.place

abbrev pub marked : PlacedShape → Shape
marked p = with_events p mark

pub marked_alike : (p : PlacedShape) → IsAlike placed numbered (Position p) mark
marked_alike p = record { carries = λ i q d. refl; meets = λ i j d e. refl; adds = λ i j q d e. refl }

-- each event is the one that stands at its place
abbrev pub AreEvents : (ℕ → TermEvent) → PlacedShape → Type 0
AreEvents ev empty = Unit {0}
AreEvents ev (one d) = ev d.place ≡ d.event
AreEvents ev (join m x y) = AreEvents ev x × AreEvents ev y
AreEvents ev (bind x q) = AreEvents ev x

pub event_is : (ev : ℕ → TermEvent) (p : PlacedShape) → AreEvents ev p → (i : Position p) → ev (place_at p i) ≡ (event_at placed p i).event
event_is ev empty h i = absurd i
event_is ev (one d) h i = h
event_is ev (join m x y) h (inl i) = event_is ev x h.0 i
event_is ev (join m x y) h (inr i) = event_is ev y h.1 i
event_is ev (bind x q) h i = event_is ev x h i
