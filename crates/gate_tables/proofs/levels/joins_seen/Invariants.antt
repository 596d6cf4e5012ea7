use Rattle.std.proofs.Common.{◌≡◌, ◌≤◌, List, ℕ, drop, length}
use Rattle.gate_tables.specs.FactMaps.{at_gate}
use Rattle.gate_tables.specs.KnownFacts.{joins_known}
use Rattle.gate_tables.proofs.levels.joins_seen.Given as goal

abbrev pub invariant-loop-left : goal.invariant-loop-left
invariant-loop-left l = record {
  low : l.left ≤ length l.joins;
  made : (g : List ℕ) → at_gate l.made g ≡ joins_known (at_gate l.inner) (drop l.left l.joins) g;
}

abbrev pub decreases-loop-left : goal.decreases-loop-left
decreases-loop-left l = l.left
