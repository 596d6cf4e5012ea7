use Rattle.msc_meaning.proofs.PlainCharts.{plain_conforms, plain_begins}
use Rattle.msc_meaning.proofs.laws.plain_charts_have_one_unfolding.Goals as goal

pub returns-clause-runs : goal.returns-clause-runs
returns-clause-runs c = plain_conforms

pub returns-clause-beginnings : goal.returns-clause-beginnings
returns-clause-beginnings c = plain_begins
