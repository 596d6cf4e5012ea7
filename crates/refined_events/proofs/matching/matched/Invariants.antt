use Rattle.std.proofs.Common.{◌≡◌, ◌++◌, [], List, drop, take}
use Rattle.msc_meaning.specs.Bodies.{EventNode}
use Rattle.msc_meaning.specs.Refinements.{matches_behind}
use Rattle.refined_events.specs.MatchViews.{matches_view, nodes_view}
use Rattle.refined_events.specs.Sorted.{AreCounts, AreSorted}
use Rattle.refined_events.proofs.matching.matched.Given as goal

abbrev pub invariant-loop-node : goal.invariant-loop-node
invariant-loop-node l = record {
  counts : AreCounts (nodes_view (take l.node-index l.nodes)) l.before;
  list : (ds : List EventNode) → AreSorted ds l.inner → matches_view l.list.items ++ matches_behind ds (nodes_view (take l.node-index l.nodes)) (nodes_view (drop l.node-index l.nodes)) ≡ matches_behind ds [] (nodes_view l.nodes);
}
