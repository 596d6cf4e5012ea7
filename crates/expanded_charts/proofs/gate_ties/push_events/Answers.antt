use Rattle.expanded_charts.specs.GateTies.{ties_view}
use Rattle.expanded_charts.proofs.GateTieFacts.{events_more}
use Rattle.expanded_charts.proofs.gate_ties.push_events.Goals as goal

pub loop-node-preserved : goal.loop-node-preserved
loop-node-preserved c =
    events_more c.args.nodes.now c.loop-node.node-index c.node-item.result c.loop-node-test.true c.node-item.is (ties_view c.args.ties.now.items) (ties_view c.loop-node.ties.items) (ties_view c.push_event.new.ties.items) c.loop-node.invariant
    c.in_ok-push_event.ensures
