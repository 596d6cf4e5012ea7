use Rattle.std.proofs.Common.{sym, ◌∙◌}
use Rattle.msc_tree.specs.Views.{graph_view}
use Rattle.graph_shapes.proofs.NetFacts.{sized}
use Rattle.graph_walks.proofs.nets.add_graph.Goals as goal

pub add_net-requires-clause-sized : goal.add_net-requires-clause-sized
add_net-requires-clause-sized c = sized (graph_view c.args.graph.now) c.in_ok-net.net c.in_ok-net.ensures.net ∙ sym c.requires.nodes

pub returns-clause-added : goal.returns-clause-added
returns-clause-added c = record { net = c.in_ok-net.net; is = c.in_ok-number.ensures.ok; of_graph = c.in_ok-net.ensures.net }
