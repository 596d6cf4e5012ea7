use Rattle.std.proofs.Common.{◌≡◌, ◌++◌, drop}
use Rattle.msc_meaning.specs.Bodies.{events}
use Rattle.general_ordering.specs.EventNames.{places_where}
use Rattle.msc_meaning.specs.ItemViews.{items_view}
use Rattle.general_ordering.specs.LevelNames.{is_named_twice, orders_unknown}
use Rattle.general_ordering.proofs.faults.note_items.Given as goal

abbrev pub invariant-loop-item : goal.invariant-loop-item
invariant-loop-item l = record {
  unknown : l.places.unknown ++ places_where (orders_unknown l.names) (events (items_view (drop l.item-index l.items))) ≡ l.initial.places.unknown ++ places_where (orders_unknown l.names) (events (items_view l.items));
  twice : l.places.twice ++ places_where (is_named_twice l.names) (events (items_view (drop l.item-index l.items))) ≡ l.initial.places.twice ++ places_where (is_named_twice l.names) (events (items_view l.items));
}
