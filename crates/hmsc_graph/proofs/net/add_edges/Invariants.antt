use Rattle.std.proofs.Common.{take}
use Rattle.hmsc_graph.specs.Reversals.{HasEdges}
use Rattle.hmsc_graph.proofs.net.add_edges.Given as goal

abbrev pub invariant-loop-to : goal.invariant-loop-to
invariant-loop-to l = HasEdges l.initial.back l.node (take l.to-index l.next) l.back
