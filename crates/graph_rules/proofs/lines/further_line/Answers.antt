use Rattle.graph_rules.specs.GraphRules.{HasFurtherLine}
use Rattle.graph_rules.proofs.GraphFacts.{graphs_all, graphs_more}
use Rattle.graph_rules.proofs.lines.further_line.Goals as goal

pub loop-graph-preserved : goal.loop-graph-preserved
loop-graph-preserved c = graphs_more HasFurtherLine c.args.graphs.now c.loop-graph.graph-index c.graph-item.result c.loop-graph.found c.further_in.result c.earlier-found.result c.loop-graph-test.true c.graph-item.is c.loop-graph.invariant c.further_in.ensures c.earlier-found.ensures

pub returns : goal.returns
returns c = graphs_all HasFurtherLine c.args.graphs.now c.loop-graph.graph-index c.loop-graph.found c.loop-graph-test.false c.loop-graph.invariant
