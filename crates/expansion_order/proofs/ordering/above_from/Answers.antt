use Rattle.std.proofs.Common.{ℕ, ◌<◌, arith}
use Rattle.expansion_order.proofs.Sorting.{below_step}
use Rattle.expansion_order.proofs.ordering.above_from.Goals as goal

pub loop-edge-preserved : goal.loop-edge-preserved
loop-edge-preserved c =
    let least = c.above-number.ensures.least in
    let number = c.above-number.ensures.above in record {
      least = let l = c.loop-edge.invariant.least in omega (arith, l, least);
      most = c.above-number.ensures.most;
      above = below_step c.args.edges.now c.loop-edge.edge-index (record { from = 0; to = 0 }) (λ (y x : ℕ). y < c.above-number.result) c.loop-edge-test.true (λ y x h. let l = c.loop-edge.invariant.above y x h in omega (arith, l, least)) number;
    }
