use Rattle.std.proofs.Common.{arith}
use Rattle.expansion_order.proofs.Sorting.{added_step, leads_at}
use Rattle.expansion_order.proofs.ordering.add_edges.Goals as goal

pub overflow_add-edge : goal.overflow_add-edge
overflow_add-edge c = let low = (c.requires _ _ (leads_at c.args.edges.now c.loop-edge.edge-index (record { from = 0; to = 0 }) c.loop-edge-test.true)).0 in omega (arith, low)

pub overflow_add-edge-in-loop-edge : goal.overflow_add-edge-in-loop-edge
overflow_add-edge-in-loop-edge c = let low = (c.requires _ _ (leads_at c.args.edges.now c.loop-edge.edge-index (record { from = 0; to = 0 }) c.loop-edge-test.true)).1 in omega (arith, low)

pub loop-edge-preserved : goal.loop-edge-preserved
loop-edge-preserved c = added_step c.args.edges.now c.args.from_by c.args.to_by c.loop-edge.edge-index (record { from = 0; to = 0 }) c.args.list.now c.loop-edge.list c.push.new.self c.loop-edge-test.true c.loop-edge.invariant c.in_ok-push.ensures.ok
