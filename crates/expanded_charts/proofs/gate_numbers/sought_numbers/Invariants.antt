use Rattle.std.proofs.Common.{◌≡◌, take}
use Rattle.expanded_charts.specs.TieNumbers.{numbers_of}
use Rattle.expanded_charts.proofs.gate_numbers.sought_numbers.Given as goal

abbrev pub invariant-loop-index : goal.invariant-loop-index
invariant-loop-index l = l.list ≡ numbers_of l.event (take l.index l.shown)
