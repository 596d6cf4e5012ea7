use Rattle.chart_links.proofs.WorkedFacts.{all_covered}
use Rattle.chart_links.proofs.worked.all_instances_are_covered.Goals as goal

pub returns : goal.returns
returns c = all_covered
