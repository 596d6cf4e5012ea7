use Rattle.expanded_terms.proofs.WholeNets as proofs
use Rattle.expanded_terms.proofs.nets_are_whole.Goals as goal

pub returns : goal.returns
returns c = proofs.nets_are_whole
