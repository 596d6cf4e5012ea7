use Rattle.gate_ends.proofs.CallFacts.{no_events}
use Rattle.gate_ends.proofs.calling.events_call_gate.Goals as goal

pub loop-node-preserved : goal.loop-node-preserved
loop-node-preserved c = no_events c.args.nodes.now c.loop-node.node-index c.node-item.result c.loop-node-test.true c.node-item.is c.loop-node.invariant (c.event_calls_gate.ensures c.if-event_calls_gate.false)
