use Rattle.std.proofs.Common.{◌≡◌, ◌++◌, drop}
use Rattle.msc_meaning.specs.Refinements.{events_at}
use Rattle.refined_events.specs.MatchViews.{nodes_view}
use Rattle.refined_events.proofs.nodes.those_at.Given as goal

abbrev pub invariant-loop-node : goal.invariant-loop-node
invariant-loop-node l = nodes_view l.list.items ++ events_at l.instance (nodes_view (drop l.node-index l.nodes)) ≡ events_at l.instance (nodes_view l.nodes)
