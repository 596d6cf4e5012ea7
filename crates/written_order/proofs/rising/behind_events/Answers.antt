use Rattle.written_order.proofs.Rises.{nodes_step, none_rise}
use Rattle.written_order.proofs.rising.behind_events.Goals as goal

pub loop-node-init : goal.loop-node-init
loop-node-init c = none_rise c.args.low

pub loop-node-preserved : goal.loop-node-preserved
loop-node-preserved c = nodes_step c.args.low c.loop-node.high c.in_ok-high.high c.args.nodes.now c.loop-node.node-index c.node-item.result c.loop-node-test.true c.node-item.is c.loop-node.invariant c.in_ok-high.ensures
