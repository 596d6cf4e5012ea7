use Rattle.std.proofs.Common.{◌≡◌}
use Rattle.chart_term.specs.Tables.{net_of}
use Rattle.hmsc_graph.specs.Nets.{size_of}
use Rattle.empty_terms.specs.Answers.{AreYes}
use Rattle.empty_terms.proofs.emptiness.empty_nodes.Given as goal

abbrev pub invariant-loop-node : goal.invariant-loop-node
invariant-loop-node l = record {
  size : l.nodes.size ≡ size_of (net_of l.nets.tables l.net);
  yes : AreYes l.answers l.root l.node l.nodes.nodes;
}
