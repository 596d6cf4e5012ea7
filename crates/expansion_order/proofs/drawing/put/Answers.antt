use Rattle.std.specs.BTreeMap.{get}
use Rattle.std.specs.Ordering.{nat_cmp}
use Rattle.expansion_order.proofs.Rows.{put_left, put_stays}
use Rattle.expansion_order.proofs.drawing.put.Goals as goal

pub returns-in_ok-leave : goal.returns-in_ok-leave
returns-in_ok-leave c =
    put_left c.args.web.now c.enter.new.web c.leave.new.web (get nat_cmp c.args.last.now) (get nat_cmp c.leave.new.last) c.args.stays c.args.stops.now c.requires.tidy c.requires.low c.in_ok-enter.ensures c.in_ok-leave.ensures c.if-not-stays.true

pub returns-else-not-stays : goal.returns-else-not-stays
returns-else-not-stays c =
    put_stays c.args.web.now c.enter.new.web (get nat_cmp c.args.last.now) c.args.stays c.args.stops.now c.requires.tidy c.requires.low c.in_ok-enter.ensures c.if-not-stays.false
