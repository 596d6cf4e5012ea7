use Rattle.graph_rules.proofs.GraphFacts.{few_at, labels_all, labels_more}
use Rattle.graph_rules.proofs.label_faults.label_fault.Goals as goal

pub fault_in-requires : goal.fault_in-requires
fault_in-requires c = few_at c.args.graphs.now c.loop-graph.graph-index c.graph-item.result c.loop-graph-test.true c.graph-item.is c.requires

pub loop-graph-preserved : goal.loop-graph-preserved
loop-graph-preserved c = labels_more c.args.graphs.now c.loop-graph.graph-index c.graph-item.result c.loop-graph.found c.in_ok-fault.fault c.earlier_fault-found.result c.loop-graph-test.true c.graph-item.is c.loop-graph.invariant c.in_ok-fault.ensures c.earlier_fault-found.ensures

pub returns : goal.returns
returns c = labels_all c.args.graphs.now c.loop-graph.graph-index c.loop-graph.found c.loop-graph-test.false c.loop-graph.invariant
