use Rattle.std.proofs.Common.{◌≡◌, ◌++◌, drop}
use Rattle.msc_meaning.specs.Ties.{each_before}
use Rattle.general_ordering.proofs.ordering.add_before.Given as goal

abbrev pub invariant-loop-first : goal.invariant-loop-first
invariant-loop-first l = l.list ++ each_before l.second (drop l.first-index l.firsts) ≡ l.initial.list ++ each_before l.second l.firsts
