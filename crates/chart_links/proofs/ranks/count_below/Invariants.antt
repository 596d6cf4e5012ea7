use Rattle.std.proofs.Common.{◌≡◌}
use Rattle.bit_sets.specs.Blocks.{has_bit}
use Rattle.chart_links.specs.Ranks.{tally}
use Rattle.chart_links.proofs.ranks.count_below.Given as goal

abbrev pub invariant-loop-number : goal.invariant-loop-number
invariant-loop-number l = l.total ≡ tally (has_bit l.row) l.number
