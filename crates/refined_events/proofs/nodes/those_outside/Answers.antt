use Rattle.std.proofs.Common.{◌∙◌}
use Rattle.msc_meaning.specs.Refinements.{is_env}
use Rattle.msc_meaning.specs.Bodies.{EventNode}
use Rattle.refined_events.specs.MatchViews.{nodes_view}
use Rattle.refined_events.proofs.Walks.{filtered_more}
use Rattle.refined_events.proofs.nodes.those_outside.Goals as goal

pub loop-node-preserved : goal.loop-node-preserved
loop-node-preserved c =
    filtered_more (λ (n : EventNode). is_env n.event.target) c.args.nodes.now c.loop-node.node-index c.node-item.result (nodes_view c.loop-node.list.items) (nodes_view c.push_env.new.list.items) c.loop-node-test.true c.node-item.is c.in_ok-push_env.ensures
    ∙ c.loop-node.invariant
