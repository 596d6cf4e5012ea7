use Rattle.std.proofs.Common.{◌≡◌, ◌++◌, take}
use Rattle.expanded_charts.proofs.parts.append.Given as goal

abbrev pub invariant-loop-pair : goal.invariant-loop-pair
invariant-loop-pair l = l.list ≡ l.fn.list ++ take l.pair-index l.others
