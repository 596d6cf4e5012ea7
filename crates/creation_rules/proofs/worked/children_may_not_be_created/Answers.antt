use Rattle.std.proofs.Common.{refl}
use Rattle.creation_rules.proofs.worked.children_may_not_be_created.Goals as goal

pub returns : goal.returns
returns c = ((refl, refl, refl), (refl, refl, refl))
