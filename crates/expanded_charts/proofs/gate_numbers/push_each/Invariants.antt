use Rattle.std.proofs.Common.{◌≡◌, ◌++◌, take}
use Rattle.expanded_charts.specs.TieNumbers.{pairs_with}
use Rattle.expanded_charts.proofs.gate_numbers.push_each.Given as goal

abbrev pub invariant-loop-second : goal.invariant-loop-second
invariant-loop-second l = l.list ≡ l.fn.list ++ pairs_with l.first (take l.second-index l.seconds)
