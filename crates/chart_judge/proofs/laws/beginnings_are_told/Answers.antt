use Rattle.chart_judge.proofs.Known.{beginnings_told}
use Rattle.chart_judge.proofs.laws.beginnings_are_told.Goals as goal

pub returns : goal.returns
returns c = beginnings_told c.charts_have_terms.ensures
