use Rattle.std.proofs.Common.{◌≡◌, IsTrue}
use Rattle.std.specs.Ordering.{nat_cmp}
use Rattle.std.specs.Vec.{vec_len}
use Rattle.std.specs.BTreeSet.{contains}
use Rattle.column_order.proofs.Loop.{Keeps}
use Rattle.column_order.proofs.Counting.{free}
use Rattle.column_order.proofs.sorting.sort_edges.Given as goal

abbrev pub invariant-loop-item : goal.invariant-loop-item
invariant-loop-item l = record {
  len : vec_len l.counts ≡ l.count;
  keeps : Keeps l.count l.edges l.counts.items (λ x. IsTrue (contains nat_cmp l.ready x)) l.order.items;
}

abbrev pub decreases-loop-item : goal.decreases-loop-item
decreases-loop-item l = free l.count l.order.items
