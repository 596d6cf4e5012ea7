use Rattle.std.proofs.Common.{◌≡◌, ◌++◌, ◌-◌}
use Rattle.column_order.specs.Laws.{numbers_from}
use Rattle.column_order.proofs.weaving.text_order.Given as goal

abbrev pub invariant-loop-item : goal.invariant-loop-item
invariant-loop-item l = l.order.items ++ numbers_from l.item (l.count - l.item) ≡ numbers_from 0 l.count
