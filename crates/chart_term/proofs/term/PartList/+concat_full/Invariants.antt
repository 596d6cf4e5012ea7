use Rattle.std.proofs.Common.{length, ◌+◌}
use Rattle.chart_term.proofs.term.PartList.+concat_full.Given as goal

abbrev pub decreases-concat_full : goal.decreases-concat_full
decreases-concat_full l = length l.first.now + length l.second.now
