use Rattle.std.proofs.Common.{refl}
use Rattle.creation_rules.proofs.worked.no_rule_is_broken.Goals as goal

pub returns : goal.returns
returns c = ((refl, refl, refl), (refl, refl, refl))
