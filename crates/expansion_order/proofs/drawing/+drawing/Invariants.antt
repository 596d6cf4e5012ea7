use Rattle.std.proofs.Common.{take}
use Rattle.std.specs.BTreeMap.{get}
use Rattle.std.specs.Ordering.{nat_cmp}
use Rattle.expansion_order.proofs.Rows.{AreEachDrawn, IsRowDrawn, viewed}
use Rattle.expansion_order.proofs.drawing.+drawing.Given as goal

abbrev pub invariant-draw_row-loop-part : goal.invariant-draw_row-loop-part
invariant-draw_row-loop-part l = IsRowDrawn (viewed (take l.part-index l.parts)) l.fn.web l.web l.all (get nat_cmp l.last)

abbrev pub invariant-draw_each-loop-part : goal.invariant-draw_each-loop-part
invariant-draw_each-loop-part l = AreEachDrawn (viewed (take l.part-index l.parts)) l.fn.web l.web l.all
