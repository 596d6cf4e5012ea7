use Rattle.chart_links.proofs.WorkedFacts.{itself_named}
use Rattle.chart_links.proofs.worked.a_chart_names_itself.Goals as goal

pub returns : goal.returns
returns c = itself_named
