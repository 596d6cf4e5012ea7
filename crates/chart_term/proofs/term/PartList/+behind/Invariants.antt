use Rattle.std.proofs.Common.{length}
use Rattle.chart_term.proofs.term.PartList.+behind.Given as goal

abbrev pub decreases-behind : goal.decreases-behind
decreases-behind l = length l.self.now
