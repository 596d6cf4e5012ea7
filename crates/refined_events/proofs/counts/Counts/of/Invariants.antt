use Rattle.std.proofs.Common.{take}
use Rattle.refined_events.specs.MatchViews.{nodes_view}
use Rattle.refined_events.specs.Sorted.{AreCounts}
use Rattle.refined_events.proofs.counts.Counts.of.Given as goal

abbrev pub invariant-loop-node : goal.invariant-loop-node
invariant-loop-node l = AreCounts (nodes_view (take l.node-index l.nodes)) l.counts
