use Rattle.std.proofs.Common.{◌≡◌, take}
use Rattle.choice_parts.proofs.copies.copied_pairs.Given as goal

abbrev pub invariant-loop-pair : goal.invariant-loop-pair
invariant-loop-pair l = l.copied ≡ take l.pair-index l.pairs
