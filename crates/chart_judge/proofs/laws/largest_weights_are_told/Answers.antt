use Rattle.chart_judge.proofs.Largest.{largest_told}
use Rattle.chart_judge.proofs.laws.largest_weights_are_told.Goals as goal

pub returns : goal.returns
returns c = largest_told c.charts_have_terms.ensures c.sets_go_on.ensures
