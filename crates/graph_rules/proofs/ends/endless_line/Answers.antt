use Rattle.graph_rules.specs.GraphRules.{HasEndlessLine}
use Rattle.graph_rules.proofs.GraphFacts.{few_at, graphs_all, graphs_more, labelled_at}
use Rattle.graph_rules.proofs.ends.endless_line.Goals as goal

pub endless_in-requires-clause-few : goal.endless_in-requires-clause-few
endless_in-requires-clause-few c = few_at c.args.graphs.now c.loop-graph.graph-index c.graph-item.result c.loop-graph-test.true c.graph-item.is c.requires.few

pub endless_in-requires-clause-labelled : goal.endless_in-requires-clause-labelled
endless_in-requires-clause-labelled c = labelled_at c.args.graphs.now c.loop-graph.graph-index c.graph-item.result c.loop-graph-test.true c.graph-item.is c.requires.labelled

pub loop-graph-preserved : goal.loop-graph-preserved
loop-graph-preserved c = graphs_more HasEndlessLine c.args.graphs.now c.loop-graph.graph-index c.graph-item.result c.loop-graph.found c.in_ok-place.place c.earlier-found.result c.loop-graph-test.true c.graph-item.is c.loop-graph.invariant c.in_ok-place.ensures c.earlier-found.ensures

pub returns : goal.returns
returns c = graphs_all HasEndlessLine c.args.graphs.now c.loop-graph.graph-index c.loop-graph.found c.loop-graph-test.false c.loop-graph.invariant
