use Rattle.std.proofs.Common.{◌≡◌, ◌↔◌, ℕ}
use Rattle.hmsc_graph.specs.Searches.{IsLost}
use Rattle.msc_base.specs.Lists.{IsIn}
use Rattle.hmsc_graph.proofs.ending.all_lost.Given as goal

abbrev pub invariant-loop-node : goal.invariant-loop-node
invariant-loop-node l = record {
  size : l.lost.size ≡ l.size;
  nodes : (m : ℕ) → IsIn m l.lost.nodes ↔ IsLost l.node l.reached.nodes l.ending.nodes m;
}
