use Rattle.std.proofs.Common.{◌≡◌, take}
use Rattle.std.specs.BTreeMap.{get}
use Rattle.std.specs.Ordering.{nat_cmp}
use Rattle.expanded_charts.specs.LeftItems.{numbers_past}
use Rattle.expanded_charts.proofs.past_refining.past_numbers.Given as goal

abbrev pub invariant-loop-index : goal.invariant-loop-index
invariant-loop-index l = l.list ≡ numbers_past (get nat_cmp l.numbers) (take l.index l.own)
