use Rattle.std.proofs.Common.{ℕ, List, ◌≡◌, ◌++◌, drop, map}
use Rattle.msc_meaning.specs.Ties.{labelled}
use Rattle.msc_meaning.specs.Views.{node_view}
use Rattle.general_ordering.specs.NamedEvents.{IsEven, group_of}
use Rattle.general_ordering.proofs.named.NamedEvents.add_events.Given as goal

abbrev pub invariant-loop-node : goal.invariant-loop-node
invariant-loop-node l = record {
  even : IsEven l.self;
  added : (name : List ℕ) → group_of l.self name ++ labelled (map node_view (drop l.node-index l.nodes)) name ≡ group_of l.initial.self name ++ labelled (map node_view l.nodes) name;
}
