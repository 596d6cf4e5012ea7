use Rattle.expansion_order.proofs.Drawn.{no_pairs, pair_step}
use Rattle.expansion_order.proofs.web.draw_pairs.Goals as goal

pub loop-pair-preserved : goal.loop-pair-preserved
loop-pair-preserved c = pair_step c.args.web.now c.loop-pair.web c.args.pairs.now c.loop-pair.pair-index (record { first = 0; second = 0 }) c.push.new.self c.loop-pair-test.true c.in_ok-push.ensures.ok c.loop-pair.invariant

pub loop-pair-init : goal.loop-pair-init
loop-pair-init c = no_pairs c.args.web.now c.requires
