use Rattle.expanded_charts.specs.GateTies.{ties_view}
use Rattle.expanded_charts.proofs.GateTieFacts.{callers_more}
use Rattle.expanded_charts.proofs.gate_ties.push_callers.Goals as goal

pub loop-item-preserved : goal.loop-item-preserved
loop-item-preserved c =
    callers_more c.args.items.now c.loop-item.item-index c.item-item.result c.loop-item-test.true c.item-item.is (ties_view c.args.ties.now.items) (ties_view c.loop-item.ties.items) (ties_view c.push_item.new.ties.items) c.loop-item.invariant
    c.in_ok-push_item.ensures
