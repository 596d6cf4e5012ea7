use Rattle.std.proofs.Common.{◌≡◌, ◌++◌, take}
use Rattle.expansion_order.proofs.stops.append.Given as goal

abbrev pub invariant-loop-stop : goal.invariant-loop-stop
invariant-loop-stop l = l.list ≡ l.fn.list ++ take l.stop-index l.others
