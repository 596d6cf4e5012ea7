use Rattle.std.proofs.Common.{◌≡◌, take}
use Rattle.tie_list.proofs.list.TieList.from_pairs.Given as goal

abbrev pub invariant-loop-pair : goal.invariant-loop-pair
invariant-loop-pair l = l.ties.items ≡ take l.pair-index l.pair-items
