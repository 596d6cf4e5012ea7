use Rattle.std.proofs.Common.{◌≡◌, ◌++◌, drop, map}
use Rattle.msc_meaning.specs.Bodies.{events, items}
use Rattle.msc_meaning.specs.Ties.{order_pairs}
use Rattle.msc_meaning.specs.Views.{item_view}
use Rattle.general_ordering.specs.NamedEvents.{group_of}
use Rattle.general_ordering.proofs.ordering.add_items.Given as goal

abbrev pub invariant-loop-item : goal.invariant-loop-item
invariant-loop-item l = l.list ++ order_pairs (group_of l.named) (events (items (map item_view (drop l.item-index l.items)))) ≡ l.initial.list ++ order_pairs (group_of l.named) (events (items (map item_view l.items)))
