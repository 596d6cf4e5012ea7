use Rattle.std.proofs.Common.{◌≡◌, ℕ, ◌<◌, ◌+◌, [], get_or, drop}
use Rattle.std.specs.Vec.{vec_len}
use Rattle.column_order.specs.Counts.{waiting}
use Rattle.column_order.proofs.sorting.counts_of.Given as goal

abbrev pub invariant-loop-edge : goal.invariant-loop-edge
invariant-loop-edge l = record { len : vec_len l.counts ≡ l.count; counts : (x : ℕ) → x < l.count → get_or l.counts.items x 0 + waiting (drop l.edge-index l.edges) [] x ≡ waiting l.edges [] x }
