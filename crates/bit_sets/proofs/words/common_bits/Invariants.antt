use Rattle.std.proofs.Common.{◌≡◌, ℕ, ◌<◌, length, get_or}
use Rattle.std.specs.Int.Bits.{bit_and}
use Rattle.bit_sets.proofs.words.common_bits.Given as goal

abbrev pub invariant-loop-index : goal.invariant-loop-index
invariant-loop-index l = record {
  long : length l.both.items ≡ l.index;
  done : (k : ℕ) → k < l.index → get_or l.both.items k 0 ≡ bit_and (get_or l.words k 0) (get_or l.others k 0);
}
