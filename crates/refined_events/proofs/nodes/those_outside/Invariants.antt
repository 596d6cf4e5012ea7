use Rattle.std.proofs.Common.{◌≡◌, ◌++◌, drop}
use Rattle.msc_meaning.specs.Refinements.{env_events}
use Rattle.refined_events.specs.MatchViews.{nodes_view}
use Rattle.refined_events.proofs.nodes.those_outside.Given as goal

abbrev pub invariant-loop-node : goal.invariant-loop-node
invariant-loop-node l = nodes_view l.list.items ++ env_events (nodes_view (drop l.node-index l.nodes)) ≡ env_events (nodes_view l.nodes)
