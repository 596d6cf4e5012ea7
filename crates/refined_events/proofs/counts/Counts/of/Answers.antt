use Rattle.std.proofs.Common.{List, subst, sym, take}
use Rattle.msc_meaning.specs.Bodies.{EventNode}
use Rattle.refined_events.specs.MatchViews.{nodes_view}
use Rattle.refined_events.specs.Sorted.{AreCounts}
use Rattle.refined_events.proofs.Walks.{nodes_more}
use Rattle.refined_events.proofs.counts.Counts.of.Goals as goal

pub loop-node-preserved : goal.loop-node-preserved
loop-node-preserved c =
    subst (λ (es : List EventNode). AreCounts es c.add_node.new.self) (sym (nodes_more c.args.nodes.now c.loop-node.node-index c.node-item.result c.loop-node-test.true c.node-item.is))
    (c.in_ok-add_node.ensures (nodes_view (take c.loop-node.node-index c.args.nodes.now)) c.loop-node.invariant)
