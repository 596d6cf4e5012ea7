-- The events of an expansion, each at its instances.
use Rattle.std.specs.Prelude.{ℕ, List, [], ◌∷◌, ◌++◌, Option, None, Some, map}
use Rattle.expansion_tree.specs.declared.tree.ExpandedEvent.{ExpandedEvent}
use Rattle.expansion_tree.specs.Expansions.{Event, InRow, Aside, OneOf, Exception, Turns, Tied, Walk, no_parts, part_and}
use Rattle.expansion_tree.specs.Numbered.{Expansion, Expansions}
use Rattle.expansion_order.specs.declared.stops.Stop.{Stop}

abbrev pub second_stop : ℕ → Option ℕ → List Stop
second_stop n None = []
second_stop n (Some k) = record { column = k; number = n } ∷ []

abbrev pub event_stops : ExpandedEvent → List Stop
event_stops e = record { column = e.at; number = e.number } ∷ second_stop e.number e.also

-- all events
abbrev mutual
  pub stops : Expansion → List Stop
  stops (Event e) = event_stops e
  stops (InRow xs) = all_stops xs
  stops (Aside xs) = all_stops xs
  stops (OneOf xs) = all_stops xs
  stops (Exception x) = stops x
  stops (Turns n lower upper x) = stops x
  stops (Tied x ps) = stops x
  stops (Walk n g xs) = all_stops xs

  pub all_stops : Expansions → List Stop
  all_stops no_parts = []
  all_stops (part_and x xs) = stops x ++ all_stops xs

abbrev pub numbered : ℕ → Stop → Stop
numbered n s = record s { number = n }

-- the events outside loops and walks, and each outermost loop or walk as one event, which is at all instances of those inside
abbrev mutual
  pub counted : Expansion → List Stop
  counted (Event e) = event_stops e
  counted (InRow xs) = all_counted xs
  counted (Aside xs) = all_counted xs
  counted (OneOf xs) = all_counted xs
  counted (Exception x) = counted x
  counted (Turns n lower upper x) = map (numbered n) (stops x)
  counted (Tied x ps) = counted x
  counted (Walk n g xs) = map (numbered n) (all_stops xs)

  pub all_counted : Expansions → List Stop
  all_counted no_parts = []
  all_counted (part_and x xs) = counted x ++ all_counted xs
