use Rattle.term_meaning.proofs.RuleLaws.{meaning_rules}
use Rattle.term_meaning.proofs.laws.constructors_mean.Goals as goal

pub returns : goal.returns
returns g c below above = meaning_rules c.normal_forms_keep_patterns.ensures c.later_tables_agree.ensures _ _ _ _ _
