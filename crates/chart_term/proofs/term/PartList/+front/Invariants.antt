use Rattle.std.proofs.Common.{length}
use Rattle.chart_term.proofs.term.PartList.+front.Given as goal

abbrev pub decreases-front : goal.decreases-front
decreases-front l = length l.self.now
