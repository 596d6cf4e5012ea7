use Rattle.std.proofs.Common.{drop}
use Rattle.msc_meaning.specs.ItemViews.{bodies_view, items_view}
use Rattle.chart_cycles.specs.Written.{HaveNoReference, OperandsHaveNoReference}
use Rattle.chart_cycles.proofs.alone.+alone.Given as goal

abbrev pub invariant-have_none-loop-item : goal.invariant-have_none-loop-item
invariant-have_none-loop-item l = HaveNoReference (items_view (drop l.item-index l.items)) → HaveNoReference (items_view l.items)

abbrev pub invariant-operands_have_none-loop-operand : goal.invariant-operands_have_none-loop-operand
invariant-operands_have_none-loop-operand l = OperandsHaveNoReference (bodies_view (drop l.operand-index l.operands)) → OperandsHaveNoReference (bodies_view l.operands)
