use Rattle.std.proofs.Common.{take}
use Rattle.refined_events.specs.MatchViews.{nodes_view}
use Rattle.refined_events.specs.Sorted.{AreSorted}
use Rattle.refined_events.proofs.placed.PlacedEvents.of.Given as goal

abbrev pub invariant-loop-node : goal.invariant-loop-node
invariant-loop-node l = AreSorted (nodes_view (take l.node-index l.nodes)) l.placed
