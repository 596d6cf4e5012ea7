use Rattle.std.proofs.Common.{◌≡◌, ◌++◌, take}
use Rattle.expanded_charts.specs.Expanding.{pairs_between}
use Rattle.expanded_charts.proofs.gate_numbers.push_between.Given as goal

abbrev pub invariant-loop-first : goal.invariant-loop-first
invariant-loop-first l = l.list ≡ l.fn.list ++ pairs_between (take l.first-index l.firsts) l.seconds
