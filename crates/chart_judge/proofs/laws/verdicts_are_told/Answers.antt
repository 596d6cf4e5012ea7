use Rattle.chart_judge.proofs.Known.{verdicts_told}
use Rattle.chart_judge.proofs.laws.verdicts_are_told.Goals as goal

pub returns : goal.returns
returns c = verdicts_told c.charts_have_terms.ensures c.verdicts_tell_runs.ensures
