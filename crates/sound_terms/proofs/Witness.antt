-- Values that meet the premises of the laws: two events in a row below a tie, as a rising row, and as drawn by a region.
use Rattle.std.specs.Prelude.{ℕ, ◌<◌, [], ◌∷◌, List, None, refl}
use Rattle.std.proofs.Common.{arith, inl, inr}
use Rattle.std.proofs.lemmas.Bool.Decides.{nat_tests}
use Rattle.msc_base.specs.Patterns.{seq}
use Rattle.chart_term.specs.NormalForms.{numbers}
use Rattle.chart_term.specs.TermPatterns.{InPairs}
use Rattle.chart_term.specs.Terms.{TermEvent, Tree, Event, Join, Tied, trees}
use Rattle.term_laws.specs.FullSoundness.{AreSoundNets}
use Rattle.term_laws.specs.OneResidual.{AreOnce}
use Rattle.term_laws.specs.Soundness.{NetLacks, IsOutside}
use Rattle.sound_terms.specs.DrawnOrders.{NetHolds}
use Rattle.sound_terms.specs.Regions.{Region, Vertex, Sequence, no_region, a_region, Mem, Covers, Placed, placed_vertex, placed_sequence, placed_none, placed_seq, InRegion, is_vertex, InOne, in_this, in_that, Draws, draws_event, draws_seq, draws_tie, draws_none, draws_more}
use Rattle.sound_terms.specs.RisingRows.{AreNumberedFrom, DoRise}

abbrev event : ℕ → ℕ → TermEvent
event n at = record { number = n; at = at; also = None; label = n }

abbrev pub events : List TermEvent
events = event 0 0 ∷ event 1 1 ∷ []

abbrev pub pair : List (ℕ × ℕ)
pair = (0, 1) ∷ []

-- no tables are sound tables, the events are numbered from 0 on, and the pair rises
no_nets : AreSoundNets 2 []
no_nets = tt

are_numbered : AreNumberedFrom 2 0 events
are_numbered = (refl, omega arith, (refl, omega arith, tt))

rises : DoRise pair
rises m n h = grind (arith, nat_tests)

-- the same two events, drawn by two vertices in a row, each event by the vertex of its number, in the order of their numbers
abbrev pub message : Tree
message = Tied (Join seq (trees (Event (event 0 0) ∷ Event (event 1 1) ∷ []))) pair

abbrev pub region : Region
region = Sequence (a_region (Vertex 0 (0 ∷ [])) (a_region (Vertex 1 (1 ∷ [])) no_region))

placed : Placed (λ n. n) region
placed = placed_sequence (placed_seq placed_vertex (placed_seq placed_vertex placed_none none_behind) apart)
  where
    none_behind : (u v i : ℕ) (is js : List ℕ) → InRegion u is (Vertex 1 (1 ∷ [])) → InOne v js no_region → Mem i is → Mem i js → u < v
    none_behind u v i is js a b = elim b [ ]

    apart : (u v i : ℕ) (is js : List ℕ) → InRegion u is (Vertex 0 (0 ∷ [])) → InOne v js (a_region (Vertex 1 (1 ∷ [])) no_region) → Mem i is → Mem i js → u < v
    apart _ _ i _ _ is_vertex (in_this is_vertex) a b = omega arith
    apart _ v i _ js is_vertex (in_that h) a b = elim h [ ]

covers : (n : ℕ) → Covers (n ∷ []) (event n n)
covers n i (inl h) = inl h
covers n i (inr h) = absurd cc

drawn : Draws (NetHolds []) (λ n. n) (λ n. n) message region
drawn = draws_tie (draws_seq (draws_more (draws_event refl (covers 0)) (draws_more (draws_event refl (covers 1)) draws_none))) rises

-- its numbers stand once, outside loops and nets
once : AreOnce (numbers (Join seq (trees (Event (event 0 0) ∷ Event (event 1 1) ∷ []))))
once = (refl, (refl, tt))

outside : (j : ℕ) → InPairs j pair → IsOutside (NetLacks []) j (Join seq (trees (Event (event 0 0) ∷ Event (event 1 1) ∷ [])))
outside j h = (tt, (tt, tt))
