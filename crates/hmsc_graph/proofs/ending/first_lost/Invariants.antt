use Rattle.std.proofs.Common.{◌<◌, ℕ}
use Rattle.msc_base.specs.Lists.{IsIn}
use Rattle.hmsc_graph.proofs.ending.first_lost.Given as goal

abbrev pub invariant-loop-node : goal.invariant-loop-node
invariant-loop-node l = (m : ℕ) → m < l.node → IsIn m l.reached.nodes → IsIn m l.ending.nodes
