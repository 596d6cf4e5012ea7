use Rattle.chart_extents.proofs.WorkedFacts.{actions_are_small}
use Rattle.chart_extents.proofs.worked.an_action_comes_to_five.Goals as goal

pub returns : goal.returns
returns c = actions_are_small
