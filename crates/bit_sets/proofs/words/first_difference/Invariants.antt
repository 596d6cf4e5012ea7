use Rattle.std.proofs.Common.{◌≡◌, ℕ, ◌<◌, ◌/◌}
use Rattle.bit_sets.specs.Blocks.{has_bit}
use Rattle.bit_sets.proofs.words.first_difference.Given as goal

abbrev pub invariant-loop-index : goal.invariant-loop-index
invariant-loop-index l = (m : ℕ) → m / 64 < l.index → has_bit l.words m ≡ has_bit l.others m
