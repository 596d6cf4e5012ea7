use Rattle.std.proofs.Common.{codes}
use Rattle.token_grammar.specs.Languages.{just}
use Rattle.token_grammar.proofs.Optionals.{none}
use Rattle.token_grammar.proofs.PartRules.{commas}
use Rattle.token_grammar.proofs.Exact.{exact_reader, one_reading}
use Rattle.msc_events.specs.Multis.{condition, joins}
use Rattle.msc_events.specs.MultiReaders.{condition_at, joins_at}
use Rattle.msc_events.proofs.MultiRules.{condition_rule, joins_rule}
use Rattle.msc_events.proofs.laws.shared_parts_are_exact.Goals as goal

pub returns-clause-one_condition : goal.returns-clause-one_condition
returns-clause-one_condition c = λ orientation. one_reading (condition orientation) (just (codes "condition")) none (condition_at orientation) (condition_rule orientation)

pub returns-clause-condition : goal.returns-clause-condition
returns-clause-condition c = λ orientation. exact_reader (condition orientation) (just (codes "condition")) none (condition_at orientation) (condition_rule orientation)

pub returns-clause-one_joins : goal.returns-clause-one_joins
returns-clause-one_joins c = one_reading joins (just (codes "via")) commas joins_at joins_rule

pub returns-clause-joins : goal.returns-clause-joins
returns-clause-joins c = exact_reader joins (just (codes "via")) commas joins_at joins_rule
