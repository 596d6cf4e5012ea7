use Rattle.msc_expression.proofs.Exact.{one_graph, graph_exact}
use Rattle.msc_expression.proofs.laws.graphs_are_exact.Goals as goal

pub returns-clause-one : goal.returns-clause-one
returns-clause-one c = one_graph

pub returns-clause-exact : goal.returns-clause-exact
returns-clause-exact c = graph_exact
