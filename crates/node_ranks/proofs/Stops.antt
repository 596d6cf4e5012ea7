-- The stops of events that have other numbers, and other numbers for their instances.
use Rattle.std.specs.Prelude.{ℕ, ◌+◌, List, [], ◌∷◌, ◌++◌, Option, None, Some, map}
use Rattle.std.specs.Option.{option_to_list}
use Rattle.std.proofs.Common.{◌≡◌, refl, subst, ◌∙◌, inl, inr}
use Rattle.msc_base.specs.Orders.{Among, first, later}
use Rattle.expansion_tree.specs.Expansions.{Expansion, Event, InRow, Aside, OneOf, Exception, Turns, Tied, Walk, Expansions, no_parts, part_and, map_events, map_all_events, events_in, all_events_in}
use Rattle.expansion_tree.specs.declared.tree.ExpandedEvent.{ExpandedEvent}
use Rattle.expansion_order.specs.Stops.{second_stop, event_stops, stops, all_stops, numbered, counted, all_counted}
use Rattle.expansion_order.specs.declared.stops.Stop.{Stop}
use Rattle.expanded_charts.specs.Expanding.{NumberedEvent}
use Rattle.node_ranks.specs.NodeRanks.{KeepsNumbers, columns_of}
use Rattle.node_ranks.proofs.ListParts.{split_among, among_left, among_right, among_map, map_among}
use Rattle.node_ranks.proofs.Moved.{moved, all_moved, moved_event}

abbrev pub stop_by : ℕ → ℕ → Stop
stop_by c n = record { column = c; number = n }

-- ---- one event

second_column : (n : ℕ) (o : Option ℕ) (s : Stop) → Among s (second_stop n o) → Among s.column (option_to_list o) × (s.number ≡ n)
second_column n None s h = elim h [ ]
second_column n (Some k) _ first = (first, refl)
second_column n (Some k) s (later h) = elim h [ ]

pub event_column : (x : ExpandedEvent) (s : Stop) → Among s (event_stops x) → Among s.column (columns_of x) × (s.number ≡ x.number)
event_column x _ first = (first, refl)
event_column x s (later h) = let (i, e) = second_column x.number x.also s h in (later i, e)

second_at : (n : ℕ) (o : Option ℕ) (c : ℕ) → Among c (option_to_list o) → Among (stop_by c n) (second_stop n o)
second_at n None c h = elim h [ ]
second_at n (Some k) _ first = first
second_at n (Some k) c (later h) = elim h [ ]

event_at : (x : ExpandedEvent) (c : ℕ) → Among c (columns_of x) → Among (stop_by c x.number) (event_stops x)
event_at x _ first = first
event_at x c (later h) = later (second_at x.number x.also c h)

-- ---- expansions

-- the stop is of one of the events by the new numbers; under one number it stands where the event stands by the old ones too
pub record IsStopOf (d : ℕ) (f g : NumberedEvent → ExpandedEvent) (es : List NumberedEvent) (ss : List Stop) (s : Stop) : Type 0 where
  pub event : NumberedEvent
  pub number : ℕ
  pub among : Among event es
  pub at : Among s.column (columns_of (g (moved_event d event)))
  pub is : s.number ≡ d + number
  pub others : (c : ℕ) → Among c (columns_of (f event)) → Among (stop_by c number) ss

module _ (d : ℕ) (f g : NumberedEvent → ExpandedEvent) (keeps_f : KeepsNumbers f) (keeps_g : KeepsNumbers g) where
  abbrev AreStopsOf : List NumberedEvent → List Stop → List Stop → Type 0
  AreStopsOf es ss ts = (s : Stop) → Among s ts → IsStopOf d f g es ss s

  both : (es ds : List NumberedEvent) (ss ts us vs : List Stop) → AreStopsOf es ss ts → AreStopsOf ds us vs → AreStopsOf (es ++ ds) (ss ++ us) (ts ++ vs)
  both es ds ss ts us vs h k s i = elim (split_among ts vs s i) [
    | inl j ↦ let a = h s j in record {
      event = a.event;
      number = a.number;
      among = among_left es ds a.event a.among;
      at = a.at;
      is = a.is;
      others = λ c p. among_left ss us (stop_by c a.number) (a.others c p);
    }
    | inr j ↦ let a = k s j in record {
      event = a.event;
      number = a.number;
      among = among_right es ds a.event a.among;
      at = a.at;
      is = a.is;
      others = λ c p. among_right ss us (stop_by c a.number) (a.others c p);
    }
  ]

  event_stop : (e : NumberedEvent) → AreStopsOf (e ∷ []) (event_stops (f e)) (event_stops (g (moved_event d e)))
  event_stop e s h = let (i, k) = event_column (g (moved_event d e)) s h in record {
    event = e;
    number = e.number;
    among = first;
    at = i;
    is = k ∙ keeps_g (moved_event d e);
    others = λ c p. subst (λ (n : ℕ). Among (stop_by c n) (event_stops (f e))) (keeps_f e) (event_at (f e) c p);
  }

  mutual
    stops_of : (x : Expansion NumberedEvent) → AreStopsOf (events_in x) (stops (map_events f x)) (stops (map_events g (moved d x)))
    stops_of (Event e) = event_stop e
    stops_of (InRow xs) = all_stops_of xs
    stops_of (Aside xs) = all_stops_of xs
    stops_of (OneOf xs) = all_stops_of xs
    stops_of (Exception x) = stops_of x
    stops_of (Turns n lower upper x) = stops_of x
    stops_of (Tied x ps) = stops_of x
    stops_of (Walk n g xs) = all_stops_of xs

    all_stops_of : (xs : Expansions NumberedEvent) → AreStopsOf (all_events_in xs) (all_stops (map_all_events f xs)) (all_stops (map_all_events g (all_moved d xs)))
    all_stops_of no_parts = λ s h. elim h [ ]
    all_stops_of (part_and x xs) = both (events_in x) (all_events_in xs) (stops (map_events f x)) (stops (map_events g (moved d x))) (all_stops (map_all_events f xs)) (all_stops (map_all_events g (all_moved d xs))) (stops_of x) (all_stops_of xs)

  -- under the number of a loop or a walk
  as_one : (n : ℕ) (es : List NumberedEvent) (ss ts : List Stop) → AreStopsOf es ss ts → AreStopsOf es (map (numbered n) ss) (map (numbered (d + n)) ts)
  as_one n es ss ts h s i =
      let (t, e, j) = map_among (numbered (d + n)) ts s i in
      let a = h t j in
      subst (λ (s : Stop). IsStopOf d f g es (map (numbered n) ss) s) e (record {
        event = a.event;
        number = n;
        among = a.among;
        at = a.at;
        is = refl;
        others = λ c p. among_map (numbered n) ss (stop_by c a.number) (a.others c p);
      })

  mutual
    pub counted_of : (x : Expansion NumberedEvent) → AreStopsOf (events_in x) (counted (map_events f x)) (counted (map_events g (moved d x)))
    counted_of (Event e) = event_stop e
    counted_of (InRow xs) = all_counted_of xs
    counted_of (Aside xs) = all_counted_of xs
    counted_of (OneOf xs) = all_counted_of xs
    counted_of (Exception x) = counted_of x
    counted_of (Turns n lower upper x) = as_one n (events_in x) (stops (map_events f x)) (stops (map_events g (moved d x))) (stops_of x)
    counted_of (Tied x ps) = counted_of x
    counted_of (Walk n s xs) = as_one n (all_events_in xs) (all_stops (map_all_events f xs)) (all_stops (map_all_events g (all_moved d xs))) (all_stops_of xs)

    pub all_counted_of : (xs : Expansions NumberedEvent) → AreStopsOf (all_events_in xs) (all_counted (map_all_events f xs)) (all_counted (map_all_events g (all_moved d xs)))
    all_counted_of no_parts = λ s h. elim h [ ]
    all_counted_of (part_and x xs) = both (events_in x) (all_events_in xs) (counted (map_events f x)) (counted (map_events g (moved d x))) (all_counted (map_all_events f xs)) (all_counted (map_all_events g (all_moved d xs))) (counted_of x) (all_counted_of xs)
