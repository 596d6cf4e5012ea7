use Rattle.std.proofs.Common.{◌≡◌, true, take}
use Rattle.std.specs.BTreeMap.{get}
use Rattle.std.specs.Ordering.{nat_cmp}
use Rattle.expanded_charts.specs.TieNumbers.{AreNumbers}
use Rattle.expanded_charts.proofs.ties.numbers_of.Given as goal

abbrev pub invariant-loop-index : goal.invariant-loop-index
invariant-loop-index l = l.apart ≡ true → AreNumbers (get nat_cmp l.by_event) (take l.index l.shown)
