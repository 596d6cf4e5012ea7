use Rattle.graph_rules.proofs.EndingGraphs as proofs
use Rattle.graph_rules.proofs.laws.walks_end.Goals as goal

pub returns : goal.returns
returns c = proofs.walks_end
