use Rattle.std.proofs.Common.{◌≡◌, ◌++◌, drop}
use Rattle.msc_meaning.specs.Ties.{each_after}
use Rattle.general_ordering.proofs.ordering.add_after.Given as goal

abbrev pub invariant-loop-second : goal.invariant-loop-second
invariant-loop-second l = l.list ++ each_after l.first (drop l.second-index l.seconds) ≡ l.initial.list ++ each_after l.first l.seconds
