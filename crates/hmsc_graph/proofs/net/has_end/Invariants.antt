use Rattle.std.proofs.Common.{take}
use Rattle.hmsc_graph.specs.Reversals.{HasEnd}
use Rattle.hmsc_graph.proofs.net.has_end.Given as goal

abbrev pub invariant-loop-node : goal.invariant-loop-node
invariant-loop-node l = HasEnd l.ends (take l.node-index l.nodes) → ⊥
