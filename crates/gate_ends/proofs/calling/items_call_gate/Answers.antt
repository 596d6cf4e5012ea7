use Rattle.gate_ends.proofs.CallFacts.{no_items}
use Rattle.gate_ends.proofs.calling.items_call_gate.Goals as goal

pub loop-item-preserved : goal.loop-item-preserved
loop-item-preserved c = no_items c.args.items.now c.loop-item.item-index c.item-item.result c.loop-item-test.true c.item-item.is c.loop-item.invariant (c.item_calls_gate.ensures c.if-item_calls_gate.false)
