use Rattle.chart_extents.proofs.WorkedFacts.{uses_add_up}
use Rattle.chart_extents.proofs.worked.each_use_counts.Goals as goal

pub returns : goal.returns
returns c = uses_add_up
