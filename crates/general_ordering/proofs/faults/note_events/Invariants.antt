use Rattle.std.proofs.Common.{◌≡◌, ◌++◌, drop, map}
use Rattle.msc_meaning.specs.Views.{node_view}
use Rattle.general_ordering.specs.EventNames.{places_where}
use Rattle.general_ordering.specs.LevelNames.{is_named_twice, orders_unknown}
use Rattle.general_ordering.proofs.faults.note_events.Given as goal

abbrev pub invariant-loop-node : goal.invariant-loop-node
invariant-loop-node l = record {
  unknown : l.places.unknown ++ places_where (orders_unknown l.names) (map node_view (drop l.node-index l.nodes)) ≡ l.initial.places.unknown ++ places_where (orders_unknown l.names) (map node_view l.nodes);
  twice : l.places.twice ++ places_where (is_named_twice l.names) (map node_view (drop l.node-index l.nodes)) ≡ l.initial.places.twice ++ places_where (is_named_twice l.names) (map node_view l.nodes);
}
