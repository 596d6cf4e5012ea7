use Rattle.refinement_rules.proofs.WorkedFacts.{more_inside}
use Rattle.refinement_rules.proofs.worked.charts_have_more_inside.Goals as goal

pub returns : goal.returns
returns c = more_inside
