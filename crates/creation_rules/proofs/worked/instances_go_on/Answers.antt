use Rattle.std.proofs.Common.{refl}
use Rattle.creation_rules.proofs.worked.instances_go_on.Goals as goal

pub returns : goal.returns
returns c = ((refl, refl, refl), (refl, refl, refl), (refl, refl, refl))
