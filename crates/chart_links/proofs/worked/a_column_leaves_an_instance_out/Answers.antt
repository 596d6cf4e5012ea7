use Rattle.chart_links.proofs.WorkedFacts.{one_left_out}
use Rattle.chart_links.proofs.worked.a_column_leaves_an_instance_out.Goals as goal

pub returns : goal.returns
returns c = one_left_out
