use Rattle.msc_base.specs.declared.limits.TheConstants.Limits.{NODE_LINES}
use Rattle.msc_tree.specs.Views.{graph_view}
use Rattle.graph_shapes.proofs.NetFacts.{net_of_graph, only_net, shape_length}
use Rattle.graph_shapes.proofs.nets.graph_net.Goals as goal

pub build-requires : goal.build-requires
build-requires c = shape_length (graph_view c.args.graph.now) c.in_ok-shape.shape NODE_LINES c.in_ok-shape.ensures c.requires

pub returns-clause-net : goal.returns-clause-net
returns-clause-net c = net_of_graph (graph_view c.args.graph.now) c.in_ok-shape.shape c.in_ok-net.net c.in_ok-shape.ensures c.in_ok-net.ensures.ok c.in_ok-net.ensures.faultless c.in_ok-net.ensures.net

pub returns-clause-only : goal.returns-clause-only
returns-clause-only c = only_net (graph_view c.args.graph.now) c.in_ok-shape.shape c.in_ok-net.net c.in_ok-shape.ensures c.in_ok-net.ensures.only
