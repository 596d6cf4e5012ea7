use Rattle.std.proofs.Common.{◌≡◌, take}
use Rattle.std.specs.BTreeMap.{get}
use Rattle.std.specs.Ordering.{nat_cmp}
use Rattle.expansion_order.specs.Webs.{AreLeft}
use Rattle.expansion_order.proofs.web.leave.Given as goal

abbrev pub invariant-loop-stop : goal.invariant-loop-stop
invariant-loop-stop l = record { start : l.first ≡ l.fn.web.bars; left : AreLeft l.fn.web l.web (get nat_cmp l.fn.last) (get nat_cmp l.last) (take l.stop-index l.stops) }
