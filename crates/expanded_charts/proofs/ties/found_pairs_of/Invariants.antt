use Rattle.std.proofs.Common.{◌≡◌, take}
use Rattle.std.specs.BTreeMap.{get}
use Rattle.std.specs.Ordering.{nat_cmp}
use Rattle.expanded_charts.specs.TieNumbers.{found_pairs}
use Rattle.expanded_charts.proofs.ties.found_pairs_of.Given as goal

abbrev pub invariant-loop-index : goal.invariant-loop-index
invariant-loop-index l = l.list ≡ found_pairs (get nat_cmp l.by_event) (take l.index l.ties)
