use Rattle.term_meaning.proofs.RuleLaws.{standing_rules}
use Rattle.term_meaning.proofs.laws.standing_has_rules.Goals as goal

pub returns : goal.returns
returns g c below above = standing_rules _ _
