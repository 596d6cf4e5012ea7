-- How many events are named in the general ordering.
use Rattle.std.specs.Prelude.{ℕ, ◌+◌, List, [], ◌∷◌, length}
use Rattle.msc_tree.specs.declared.event.RawEvent.{RawEvent}
use Rattle.msc_meaning.specs.Bodies.{EventNode}

-- how many names of events it is to come before or after
abbrev pub order_count : RawEvent → ℕ
order_count e = length e.order.earlier_than + length e.order.later_than

abbrev pub orders_count : List EventNode → ℕ
orders_count [] = 0
orders_count (n ∷ ns) = order_count n.event + orders_count ns
