use Rattle.std.proofs.Common.{◌≡◌, ◌++◌, None, drop, map}
use Rattle.general_ordering.specs.LevelNames.{lowest_from}
use Rattle.general_ordering.proofs.level_names.lowest_of_each.Given as goal

abbrev pub invariant-loop-group : goal.invariant-loop-group
invariant-loop-group l = l.lowest.items ++ map (lowest_from None) (drop l.group-index l.groups) ≡ map (lowest_from None) l.groups
