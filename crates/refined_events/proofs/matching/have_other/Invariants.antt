use Rattle.std.proofs.Common.{drop}
use Rattle.refined_events.specs.MatchViews.{nodes_view}
use Rattle.refined_events.specs.Sorted.{HaveOther}
use Rattle.refined_events.proofs.matching.have_other.Given as goal

abbrev pub invariant-loop-node : goal.invariant-loop-node
invariant-loop-node l = record {
  left : HaveOther l.counts l.others (nodes_view (drop l.node-index l.nodes)) → HaveOther l.counts l.others (nodes_view l.nodes);
  none : HaveOther l.counts l.others (nodes_view l.nodes) → HaveOther l.counts l.others (nodes_view (drop l.node-index l.nodes));
}
