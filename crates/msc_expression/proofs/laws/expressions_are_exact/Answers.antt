use Rattle.msc_expression.proofs.Exact.{one_expression, expression_exact}
use Rattle.msc_expression.proofs.laws.expressions_are_exact.Goals as goal

pub returns-clause-one : goal.returns-clause-one
returns-clause-one c = one_expression

pub returns-clause-exact : goal.returns-clause-exact
returns-clause-exact c = expression_exact
