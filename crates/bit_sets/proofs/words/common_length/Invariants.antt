use Rattle.std.proofs.Common.{◌≡◌, ℕ, ◌≤◌, length, get_or}
use Rattle.std.specs.Int.Bits.{bit_and}
use Rattle.bit_sets.proofs.words.common_length.Given as goal

abbrev pub invariant-loop-count : goal.invariant-loop-count
invariant-loop-count l = record {
  long : l.count ≤ length l.words;
  others_long : l.count ≤ length l.others;
  past : (k : ℕ) → l.count ≤ k → bit_and (get_or l.words k 0) (get_or l.others k 0) ≡ 0;
}

abbrev pub decreases-loop-count : goal.decreases-loop-count
decreases-loop-count l = l.count
