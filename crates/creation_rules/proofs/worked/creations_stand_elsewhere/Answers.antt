use Rattle.std.proofs.Common.{refl}
use Rattle.creation_rules.proofs.worked.creations_stand_elsewhere.Goals as goal

pub returns : goal.returns
returns c = ((refl, refl, refl), (refl, refl, refl))
