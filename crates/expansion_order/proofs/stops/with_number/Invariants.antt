use Rattle.std.proofs.Common.{◌≡◌, map, take}
use Rattle.expansion_order.specs.Stops.{numbered}
use Rattle.expansion_order.proofs.stops.with_number.Given as goal

abbrev pub invariant-loop-stop : goal.invariant-loop-stop
invariant-loop-stop l = l.all ≡ map (numbered l.number) (take l.stop-index l.stops)
