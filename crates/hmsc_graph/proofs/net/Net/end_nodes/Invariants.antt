use Rattle.std.proofs.Common.{◌≡◌, ◌<◌, ◌↔◌, ℕ, true}
use Rattle.hmsc_graph.specs.Graphs.{End, arrives}
use Rattle.msc_base.specs.Lists.{IsIn}
use Rattle.hmsc_graph.proofs.net.Net.end_nodes.Given as goal

abbrev pub invariant-loop-node : goal.invariant-loop-node
invariant-loop-node l = (m : ℕ) → IsIn m l.nodes ↔ ((m < l.node) × (arrives l.self End m ≡ true))
