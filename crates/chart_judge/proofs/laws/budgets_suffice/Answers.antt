use Rattle.chart_judge.proofs.Known.{budgets_suffice}
use Rattle.chart_judge.proofs.laws.budgets_suffice.Goals as goal

pub returns : goal.returns
returns c = budgets_suffice c.charts_have_terms.ensures c.budget_suffices.ensures
