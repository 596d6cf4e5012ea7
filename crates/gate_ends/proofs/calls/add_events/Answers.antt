use Rattle.msc_meaning.specs.Bodies.{EventNode}
use Rattle.msc_meaning.specs.Calls.{event_calls}
use Rattle.msc_meaning.specs.Views.{node_view}
use Rattle.gate_ends.specs.CallViews.{calls_view}
use Rattle.gate_ends.proofs.Walks.{listed_more}
use Rattle.gate_ends.proofs.calls.add_events.Goals as goal

pub loop-node-preserved : goal.loop-node-preserved
loop-node-preserved c =
    listed_more node_view (λ (n : EventNode). event_calls n n.event.target) c.args.nodes.now c.loop-node.node-index c.node-item.result (calls_view c.loop-node.calls.items) (calls_view c.add_event.new.calls.items) _
    c.loop-node-test.true c.node-item.is c.in_ok-add_event.ensures c.loop-node.invariant
