use Rattle.chart_extents.proofs.WorkedFacts.{frames_add_up}
use Rattle.chart_extents.proofs.worked.frames_count.Goals as goal

pub returns : goal.returns
returns c = frames_add_up
