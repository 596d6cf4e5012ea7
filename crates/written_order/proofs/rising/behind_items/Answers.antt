use Rattle.written_order.proofs.Rises.{items_step, none_rise}
use Rattle.written_order.proofs.rising.behind_items.Goals as goal

pub loop-item-init : goal.loop-item-init
loop-item-init c = none_rise 0

pub loop-item-preserved : goal.loop-item-preserved
loop-item-preserved c = items_step c.loop-item.high c.in_ok-high.high c.args.items.now c.loop-item.item-index c.item-item.result c.loop-item-test.true c.item-item.is c.loop-item.invariant c.in_ok-high.ensures
