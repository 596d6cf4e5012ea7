use Rattle.refinement_rules.proofs.WorkedFacts.{other_messages}
use Rattle.refinement_rules.proofs.worked.messages_differ.Goals as goal

pub returns : goal.returns
returns c = other_messages
