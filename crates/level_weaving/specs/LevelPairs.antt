-- Serves private contracts alone.
-- The pairs of a level by the numbers of its events.
use Rattle.std.specs.Prelude.{ℕ, List, Option, Some, None, slice_get, map}
use Rattle.column_order.specs.declared.edge.Edge.{Edge}
use Rattle.msc_base.specs.declared.label.Pair.{Pair}
use Rattle.msc_meaning.specs.Bodies.{EventNode}

abbrev pub number_of : EventNode → ℕ
number_of d = d.number

-- the number of the event at that position
abbrev pub number_or_zero : Option EventNode → ℕ
number_or_zero None = 0
number_or_zero (Some d) = d.number

abbrev pub edge_at : List EventNode → Edge → Edge
edge_at held e = record { from = number_or_zero (slice_get held e.from); to = number_or_zero (slice_get held e.to) }

-- of pairs by positions
abbrev pub edges_at : List EventNode → List Edge → List Edge
edges_at held es = map (edge_at held) es

abbrev pub pair_of : Edge → Pair
pair_of e = record { first = e.from; second = e.to }
