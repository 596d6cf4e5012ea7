use Rattle.std.proofs.Common.{◌≡◌, ◌<◌, ℕ}
use Rattle.msc_base.specs.Lists.{IsIn}
use Rattle.bit_sets.proofs.node_set.NodeSet.full.Given as goal

abbrev pub invariant-loop-node : goal.invariant-loop-node
invariant-loop-node l = record {
  size : l.set.size ≡ l.size;
  nodes : (n : ℕ) → n < l.node → IsIn n l.set.nodes;
}
