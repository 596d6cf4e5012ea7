use Rattle.std.proofs.Common.{◌≡◌, ◌≤◌, List, ℕ, drop, length, map}
use Rattle.msc_meaning.specs.Views.{node_view}
use Rattle.gate_tables.specs.FactMaps.{at_gate}
use Rattle.gate_tables.specs.KnownFacts.{events_known}
use Rattle.gate_tables.proofs.levels.events_seen.Given as goal

abbrev pub invariant-loop-left : goal.invariant-loop-left
invariant-loop-left l = record {
  low : l.left ≤ length l.nodes;
  made : (g : List ℕ) → at_gate l.made g ≡ events_known (map node_view (drop l.left l.nodes)) g;
}

abbrev pub decreases-loop-left : goal.decreases-loop-left
decreases-loop-left l = l.left
