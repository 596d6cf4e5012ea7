use Rattle.std.proofs.Common.{◌≡◌, ◌++◌, drop, map}
use Rattle.msc_meaning.specs.Views.{node_view}
use Rattle.refined_events.specs.MatchViews.{nodes_view}
use Rattle.refined_events.proofs.nodes.push_all.Given as goal

abbrev pub invariant-loop-node : goal.invariant-loop-node
invariant-loop-node l = nodes_view l.list.items ++ map node_view (drop l.node-index l.nodes) ≡ nodes_view l.initial.list.items ++ map node_view l.nodes
