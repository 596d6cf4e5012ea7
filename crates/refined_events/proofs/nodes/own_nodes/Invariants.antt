use Rattle.std.proofs.Common.{◌≡◌, ◌++◌, drop}
use Rattle.msc_meaning.specs.Bodies.{events}
use Rattle.msc_meaning.specs.ItemViews.{items_view}
use Rattle.refined_events.specs.MatchViews.{nodes_view}
use Rattle.refined_events.proofs.nodes.own_nodes.Given as goal

abbrev pub invariant-loop-item : goal.invariant-loop-item
invariant-loop-item l = nodes_view l.list.items ++ events (items_view (drop l.item-index l.items)) ≡ events (items_view l.items)
