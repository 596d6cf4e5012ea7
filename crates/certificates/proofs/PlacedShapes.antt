-- A pattern with places, and the same without.
use Rattle.std.specs.Prelude.{ℕ, refl}
use Rattle.msc_base.specs.Patterns.{Position}
use Rattle.chart_term.specs.TermPatterns.{Shape, numbered}
use Rattle.chart_term.specs.Terms.{TermEvent}
use Rattle.certificates.specs.Certificates.{PlacedEvent, PlacedShape, placed}
use Rattle.certificates.proofs.OtherEvents.{with_events, IsAlike}

-- the event without its place
abbrev pub event_of : {P : Type 0} → P → PlacedEvent → TermEvent
event_of i d = d.event

abbrev pub unplaced : PlacedShape → Shape
unplaced p = with_events p event_of

pub unplaced_alike : (p : PlacedShape) → IsAlike placed numbered (Position p) event_of
unplaced_alike p = record { carries = λ i q d. refl; meets = λ i j d e. refl; adds = λ i j q d e. refl }

-- the event with the place of its position
abbrev pub put_at : {P : Type 0} → (P → ℕ) → P → TermEvent → PlacedEvent
put_at place i e = record { event = e; place = place i }

abbrev pub with_places : (s : Shape) → (Position s → ℕ) → PlacedShape
with_places s place = with_events s (put_at place)

pub placed_alike : (s : Shape) (place : Position s → ℕ) → IsAlike numbered placed (Position s) (put_at place)
placed_alike s place = record { carries = λ i q d. refl; meets = λ i j d e. refl; adds = λ i j q d e. refl }
