use Rattle.std.proofs.Common.{◌≡◌, ℕ, ◌<◌, ◌/◌, true, false}
use Rattle.bit_sets.specs.Blocks.{has_bit}
use Rattle.chart_links.proofs.bit_row.share_bit.Given as goal

abbrev pub invariant-loop-index : goal.invariant-loop-index
invariant-loop-index l = (n : ℕ) → n / 64 < l.index → has_bit l.words n ≡ true → has_bit l.others n ≡ false
