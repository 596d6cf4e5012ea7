use Rattle.std.proofs.Common.{◌≡◌, length}
use Rattle.hmsc_graph.specs.Reversals.{AreEdgesBack}
use Rattle.hmsc_graph.proofs.net.edges_back.Given as goal

abbrev pub invariant-loop-node : goal.invariant-loop-node
invariant-loop-node l = record {
  each : length l.back.items ≡ length l.next;
  edges : AreEdgesBack l.next l.node l.back.items;
}
