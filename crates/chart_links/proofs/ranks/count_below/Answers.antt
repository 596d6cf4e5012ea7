use Rattle.std.proofs.Common.{arith}
use Rattle.bit_sets.specs.Blocks.{has_bit}
use Rattle.chart_links.proofs.RankFacts.{tally_few}
use Rattle.chart_links.proofs.ranks.count_below.Goals as goal

pub overflow_add-total : goal.overflow_add-total
overflow_add-total c = omega (arith, tally_few (has_bit c.args.row.now) c.loop-number.number, c.loop-number.invariant, c.loop-number-test.true, c.ranges.count.fits)
