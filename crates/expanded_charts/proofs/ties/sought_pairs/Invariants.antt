use Rattle.std.proofs.Common.{◌≡◌, take}
use Rattle.expanded_charts.specs.TieNumbers.{tie_pairs}
use Rattle.expanded_charts.proofs.ties.sought_pairs.Given as goal

abbrev pub invariant-loop-index : goal.invariant-loop-index
invariant-loop-index l = l.list ≡ tie_pairs l.shown (take l.index l.ties)
