use Rattle.std.proofs.Common.{◌≡◌, ℕ, ◌<◌, ◌≤◌, length, get_or, max, min}
use Rattle.std.specs.Int.Bits.{bit_and, bit_or}
use Rattle.chart_links.proofs.bit_row.unite_common_words.Given as goal

abbrev pub invariant-loop-index : goal.invariant-loop-index
invariant-loop-index l = record {
  long : length l.words.items ≡ max (length l.fn.words.items) (min (length l.one) (length l.other));
  done : (k : ℕ) → k < l.index → get_or l.words.items k 0 ≡ bit_or (get_or l.fn.words.items k 0) (bit_and (get_or l.one k 0) (get_or l.other k 0));
  left : (k : ℕ) → l.index ≤ k → get_or l.words.items k 0 ≡ get_or l.fn.words.items k 0;
}
