use Rattle.std.proofs.Common.{◌≡◌, take}
use Rattle.term_sets.proofs.set_key.SetKey.of_list.Given as goal

abbrev pub invariant-loop-index : goal.invariant-loop-index
invariant-loop-index l = l.copies.items ≡ take l.index l.terms
