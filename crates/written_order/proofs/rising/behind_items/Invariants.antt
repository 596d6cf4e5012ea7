use Rattle.std.proofs.Common.{take}
use Rattle.msc_meaning.specs.Bodies.{events}
use Rattle.msc_meaning.specs.ItemViews.{items_view}
use Rattle.written_order.specs.Rising.{RiseTo}
use Rattle.written_order.proofs.rising.behind_items.Given as goal

abbrev pub invariant-loop-item : goal.invariant-loop-item
invariant-loop-item l = RiseTo 0 (events (items_view (take l.item-index l.items))) l.high
