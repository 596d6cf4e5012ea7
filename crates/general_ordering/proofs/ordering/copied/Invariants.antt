use Rattle.std.proofs.Common.{◌≡◌, ◌++◌, drop}
use Rattle.general_ordering.proofs.ordering.copied.Given as goal

abbrev pub invariant-loop-pair : goal.invariant-loop-pair
invariant-loop-pair l = l.list ++ drop l.pair-index l.pairs ≡ l.pairs
