use Rattle.std.proofs.Common.{◌≡◌, ◌++◌, drop}
use Rattle.column_order.specs.Columns.{onward, neighbours}
use Rattle.column_order.proofs.weaving.add_column.Given as goal

abbrev pub invariant-loop-item : goal.invariant-loop-item
invariant-loop-item l = l.edges.items ++ onward l.earlier (drop l.item-index l.column) ≡ l.initial.edges.items ++ neighbours l.column
