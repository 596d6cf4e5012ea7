use Rattle.std.proofs.Common.{length}
use Rattle.chart_term.proofs.term.PartList.+next_with.Given as goal

abbrev pub decreases-next_with : goal.decreases-next_with
decreases-next_with l = length l.self.now
