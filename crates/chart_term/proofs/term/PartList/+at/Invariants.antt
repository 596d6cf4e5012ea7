use Rattle.std.proofs.Common.{length}
use Rattle.chart_term.proofs.term.PartList.+at.Given as goal

abbrev pub decreases-at : goal.decreases-at
decreases-at l = length l.self.now
