use Rattle.std.proofs.Common.{◌≡◌, ◌+◌, drop}
use Rattle.std.specs.List.{position_from}
use Rattle.persistent_sequence.proofs.search.first_of.Given as goal

abbrev pub invariant-loop-at : goal.invariant-loop-at
invariant-loop-at g l = position_from (g.S.Search.passes l.test) (l.base + l.index) (drop l.index l.items) ≡ position_from (g.S.Search.passes l.test) (l.base + l.at) (drop l.at l.items)
