-- Serves private contracts alone.
-- The tests of a pattern, on its signs.
use Rattle.std.specs.Prelude.{ℕ, suc, ◌<◌, ◌≡◌, true, List, [], ◌∷◌, ◌++◌, Some, max, length, drop, map, slice_get}
use Rattle.msc_base.specs.Lists.{AreDifferent, IsAmong}
use Rattle.chart_term.specs.TermPatterns.{pairs}
use Rattle.certificates.specs.Certificates.{PlacedEvent}
use Rattle.certificates.specs.Floors.{Floors, raised, IsAbove}
use Rattle.pattern_marks.specs.Marks.{Sign, stands, opens, turns, closes, tie_opens, tie_closes}

-- the events, in their order
abbrev pub events_in : List Sign → List PlacedEvent
events_in [] = []
events_in (stands e n ∷ ms) = record { event = e; place = n } ∷ events_in ms
events_in (opens ∷ ms) = events_in ms
events_in (turns ∷ ms) = events_in ms
events_in (closes ∷ ms) = events_in ms
events_in (tie_opens ∷ ms) = events_in ms
events_in (tie_closes q ∷ ms) = events_in ms

-- the event stands at a place of the log that has its label
abbrev pub IsPlaced : List ℕ → PlacedEvent → Type 0
IsPlaced run d = (k : ℕ) × (d.place ≡ suc k) × (slice_get run k ≡ Some d.event.label)

-- the events stand at the places of the log, each place at one
pub record ArePlaced (run : List ℕ) (ds : List PlacedEvent) : Type 0 where
  pub labelled : (d : PlacedEvent) → IsAmong ds d → IsPlaced run d
  pub once : AreDifferent (map (λ d. d.place) ds)
  pub every : (k : ℕ) → k < length run → (d : PlacedEvent) × IsAmong ds d × (d.place ≡ suc k)

-- floors that wait while parts side by side are gone through: those before the first, or those behind it
pub data Waiting : Type 0 where
  before : Floors → Waiting
  behind : Floors → Waiting

-- each event stands above the floors; of those that wait the innermost come first
abbrev pub DoRise : Floors → List Waiting → List Sign → Type 0
DoRise f ws [] = Unit {0}
DoRise f ws (stands e n ∷ ms) = IsAbove f e n × DoRise (raised f e n) ws ms
DoRise f ws (opens ∷ ms) = DoRise f (before f ∷ ws) ms
DoRise f [] (turns ∷ ms) = ⊥
DoRise f (before g ∷ ws) (turns ∷ ms) = DoRise g (behind f ∷ ws) ms
DoRise f (behind g ∷ ws) (turns ∷ ms) = ⊥
DoRise f [] (closes ∷ ms) = ⊥
DoRise f (before g ∷ ws) (closes ∷ ms) = ⊥
DoRise f (behind g ∷ ws) (closes ∷ ms) = DoRise (λ i. max (g i) (f i)) ws ms
DoRise f ws (tie_opens ∷ ms) = DoRise f ws ms
DoRise f ws (tie_closes q ∷ ms) = DoRise f ws ms

-- of each pair with both ends among the events the first place is the smaller
abbrev pub DoPairsGo : List (ℕ × ℕ) → List PlacedEvent → Type 0
DoPairsGo q ds = (d e : PlacedEvent) → IsAmong ds d → IsAmong ds e → pairs q d.event.number e.event.number ≡ true → d.place < e.place

-- so it is for each tie; of those that have begun it is known how many events were before
abbrev pub DoTiesGo : List PlacedEvent → List ℕ → List Sign → Type 0
DoTiesGo ds ns [] = Unit {0}
DoTiesGo ds ns (stands e n ∷ ms) = DoTiesGo (ds ++ record { event = e; place = n } ∷ []) ns ms
DoTiesGo ds ns (opens ∷ ms) = DoTiesGo ds ns ms
DoTiesGo ds ns (turns ∷ ms) = DoTiesGo ds ns ms
DoTiesGo ds ns (closes ∷ ms) = DoTiesGo ds ns ms
DoTiesGo ds ns (tie_opens ∷ ms) = DoTiesGo ds (length ds ∷ ns) ms
DoTiesGo ds [] (tie_closes q ∷ ms) = ⊥
DoTiesGo ds (n ∷ ns) (tie_closes q ∷ ms) = DoPairsGo q (drop n ds) × DoTiesGo ds ns ms
