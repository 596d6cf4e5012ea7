use Rattle.refinement_rules.proofs.WorkedFacts.{has_local}
use Rattle.refinement_rules.proofs.worked.instances_have_local_events.Goals as goal

pub returns : goal.returns
returns c = has_local
