use Rattle.refinement_rules.proofs.WorkedFacts.{shares}
use Rattle.refinement_rules.proofs.worked.instances_are_shared.Goals as goal

pub returns : goal.returns
returns c = shares
