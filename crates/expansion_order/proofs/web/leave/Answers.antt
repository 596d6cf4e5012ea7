use Rattle.std.proofs.Common.{refl}
use Rattle.std.specs.BTreeMap.{get}
use Rattle.std.specs.Ordering.{nat_cmp}
use Rattle.expansion_order.proofs.LastBars.{left_step}
use Rattle.expansion_order.proofs.web.leave.Goals as goal

pub loop-stop-preserved : goal.loop-stop-preserved
loop-stop-preserved c = record {
  start = refl;
  left = left_step c.args.web.now c.loop-stop.web c.bar_at.new.web (get nat_cmp c.args.last.now) (get nat_cmp c.loop-stop.last) (get nat_cmp c.bar_at.new.last) c.args.stops.now c.loop-stop.stop-index (record { column = 0; number = 0 }) c.in_ok-bar.bar
      c.push.new.self c.loop-stop-test.true c.requires.low c.loop-stop.invariant.left c.in_ok-bar.ensures c.in_ok-push.ensures.ok;
}
