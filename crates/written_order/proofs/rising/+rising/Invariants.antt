use Rattle.std.proofs.Common.{drop}
use Rattle.msc_meaning.specs.ItemViews.{bodies_view, items_view}
use Rattle.written_order.specs.Rising.{AreRisingBodies, AreRisingItems}
use Rattle.written_order.proofs.rising.+rising.Given as goal

abbrev pub invariant-are_rising-loop-item : goal.invariant-are_rising-loop-item
invariant-are_rising-loop-item l = AreRisingItems (items_view (drop l.item-index l.items)) → AreRisingItems (items_view l.items)

abbrev pub invariant-have_rising-loop-operand : goal.invariant-have_rising-loop-operand
invariant-have_rising-loop-operand l = AreRisingBodies (bodies_view (drop l.operand-index l.operands)) → AreRisingBodies (bodies_view l.operands)
