use Rattle.std.proofs.Common.{◌∙◌}
use Rattle.std.specs.Str.{bytes_eq}
use Rattle.msc_meaning.specs.Bodies.{EventNode}
use Rattle.refined_events.specs.MatchViews.{nodes_view}
use Rattle.refined_events.proofs.Walks.{filtered_more}
use Rattle.refined_events.proofs.nodes.those_at.Goals as goal

pub loop-node-preserved : goal.loop-node-preserved
loop-node-preserved c =
    filtered_more (λ (n : EventNode). bytes_eq n.at c.args.instance.now) c.args.nodes.now c.loop-node.node-index c.node-item.result (nodes_view c.loop-node.list.items) (nodes_view c.push_at.new.list.items) c.loop-node-test.true c.node-item.is c.in_ok-push_at.ensures
    ∙ c.loop-node.invariant
