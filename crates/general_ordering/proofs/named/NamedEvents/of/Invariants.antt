use Rattle.std.proofs.Common.{ℕ, List, ◌≡◌, ◌++◌, drop, map}
use Rattle.msc_meaning.specs.Bodies.{events, items}
use Rattle.msc_meaning.specs.Ties.{labelled}
use Rattle.msc_meaning.specs.Views.{item_view}
use Rattle.general_ordering.specs.NamedEvents.{IsEven, group_of}
use Rattle.general_ordering.proofs.named.NamedEvents.of.Given as goal

abbrev pub invariant-loop-item : goal.invariant-loop-item
invariant-loop-item l = record {
  even : IsEven l.named;
  added : (name : List ℕ) → group_of l.named name ++ labelled (events (items (map item_view (drop l.item-index l.items)))) name ≡ labelled (events (items (map item_view l.items))) name;
}
