use Rattle.std.proofs.Common.{take}
use Rattle.std.specs.BTreeMap.{get}
use Rattle.std.specs.Ordering.{nat_cmp}
use Rattle.expansion_order.specs.Webs.{AreEntered}
use Rattle.expansion_order.proofs.web.enter.Given as goal

abbrev pub invariant-loop-stop : goal.invariant-loop-stop
invariant-loop-stop l = AreEntered l.fn.web l.web (get nat_cmp l.last) (take l.stop-index l.stops)
