use Rattle.chart_links.proofs.WorkedFacts.{nodes_name}
use Rattle.chart_links.proofs.worked.nodes_name_charts.Goals as goal

pub returns : goal.returns
returns c = nodes_name
