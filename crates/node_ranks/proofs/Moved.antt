-- Expansions with greater numbers: as they are made from a greater first number on.
use Rattle.std.specs.Prelude.{ℕ, ◌+◌, map}
use Rattle.msc_base.specs.declared.label.Pair.{Pair}
use Rattle.msc_unfolding.specs.Unfoldings.{Tag}
use Rattle.expansion_tree.specs.Expansions.{Expansion, Event, InRow, Aside, OneOf, Exception, Turns, Tied, Walk, Expansions, no_parts, part_and}
use Rattle.expanded_charts.specs.Expanding.{NumberedEvent, Shown, Expanded, ExpandedParts}

abbrev pub moved_event : ℕ → NumberedEvent → NumberedEvent
moved_event d e = record e { number = d + e.number }

abbrev pub moved_pair : ℕ → Pair → Pair
moved_pair d p = record { first = d + p.first; second = d + p.second }

abbrev pub moved_tag : ℕ → ℕ × Tag → ℕ × Tag
moved_tag d p = (d + p.0, p.1)

abbrev pub moved_shown : ℕ → Shown → Shown
moved_shown d sh = map (moved_tag d) sh

abbrev mutual
  pub moved : ℕ → Expansion NumberedEvent → Expansion NumberedEvent
  moved d (Event e) = Event (moved_event d e)
  moved d (InRow xs) = InRow (all_moved d xs)
  moved d (Aside xs) = Aside (all_moved d xs)
  moved d (OneOf xs) = OneOf (all_moved d xs)
  moved d (Exception x) = Exception (moved d x)
  moved d (Turns n lower upper x) = Turns (d + n) lower upper (moved d x)
  moved d (Tied x ps) = Tied (moved d x) (map (moved_pair d) ps)
  moved d (Walk n g xs) = Walk (d + n) g (all_moved d xs)

  pub all_moved : ℕ → Expansions NumberedEvent → Expansions NumberedEvent
  all_moved d no_parts = no_parts
  all_moved d (part_and x xs) = part_and (moved d x) (all_moved d xs)

abbrev pub moved_part : ℕ → Expanded → Expanded
moved_part d e = record { part = moved d e.part; shown = moved_shown d e.shown; next = d + e.next }

abbrev pub moved_parts : ℕ → ExpandedParts → ExpandedParts
moved_parts d l = record { parts = all_moved d l.parts; shown = moved_shown d l.shown; next = d + l.next }
