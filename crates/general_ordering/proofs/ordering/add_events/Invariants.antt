use Rattle.std.proofs.Common.{◌≡◌, ◌++◌, drop, map}
use Rattle.msc_meaning.specs.Ties.{order_pairs}
use Rattle.msc_meaning.specs.Views.{node_view}
use Rattle.general_ordering.specs.NamedEvents.{group_of}
use Rattle.general_ordering.proofs.ordering.add_events.Given as goal

abbrev pub invariant-loop-node : goal.invariant-loop-node
invariant-loop-node l = l.list ++ order_pairs (group_of l.named) (map node_view (drop l.node-index l.nodes)) ≡ l.initial.list ++ order_pairs (group_of l.named) (map node_view l.nodes)
