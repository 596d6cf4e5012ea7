use Rattle.std.proofs.Common.{◌≡◌, None, drop}
use Rattle.general_ordering.specs.LevelNames.{lowest_from}
use Rattle.general_ordering.proofs.level_names.lowest_of.Given as goal

abbrev pub invariant-loop-number : goal.invariant-loop-number
invariant-loop-number l = lowest_from l.lowest (drop l.number-index l.numbers) ≡ lowest_from None l.numbers
