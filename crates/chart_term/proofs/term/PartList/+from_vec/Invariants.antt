use Rattle.std.proofs.Common.{length}
use Rattle.chart_term.proofs.term.PartList.+from_vec.Given as goal

abbrev pub decreases-from_vec : goal.decreases-from_vec
decreases-from_vec l = length l.parts.items
