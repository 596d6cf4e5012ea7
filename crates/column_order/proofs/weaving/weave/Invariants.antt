use Rattle.std.proofs.Common.{◌≡◌, ◌++◌, drop}
use Rattle.column_order.specs.Columns.{all_neighbours, items_of}
use Rattle.column_order.proofs.weaving.weave.Given as goal

abbrev pub invariant-loop-column : goal.invariant-loop-column
invariant-loop-column l = l.edges.items ++ all_neighbours (items_of (drop l.column-index l.columns)) ≡ all_neighbours (items_of l.columns)
