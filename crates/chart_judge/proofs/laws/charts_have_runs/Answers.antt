use Rattle.chart_judge.proofs.Known.{have_runs}
use Rattle.chart_judge.proofs.laws.charts_have_runs.Goals as goal

pub returns : goal.returns
returns c = have_runs c.charts_have_terms.ensures
