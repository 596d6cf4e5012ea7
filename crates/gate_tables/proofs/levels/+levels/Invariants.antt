use Rattle.std.proofs.Common.{◌≡◌, ◌≤◌, List, ℕ, drop, length}
use Rattle.msc_meaning.specs.ItemViews.{bodies_view, items_view}
use Rattle.gate_tables.specs.FactMaps.{at_gate}
use Rattle.gate_tables.specs.KeptMaps.{kept_of}
use Rattle.gate_tables.specs.KnownFacts.{items_known, operands_known}
use Rattle.gate_tables.proofs.levels.+levels.Given as goal

abbrev pub invariant-items_seen-loop-left : goal.invariant-items_seen-loop-left
invariant-items_seen-loop-left l = record {
  low : l.left ≤ length l.items;
  made : (g : List ℕ) → at_gate l.made g ≡ items_known (kept_of l.known) l.calls (items_view (drop l.left l.items)) g;
}

abbrev pub decreases-items_seen-loop-left : goal.decreases-items_seen-loop-left
decreases-items_seen-loop-left l = l.left

abbrev pub invariant-operands_seen-loop-left : goal.invariant-operands_seen-loop-left
invariant-operands_seen-loop-left l = record {
  low : l.left ≤ length l.operands;
  made : (g : List ℕ) → at_gate l.made g ≡ operands_known (kept_of l.known) l.form (bodies_view (drop l.left l.operands)) g;
}

abbrev pub decreases-operands_seen-loop-left : goal.decreases-operands_seen-loop-left
decreases-operands_seen-loop-left l = l.left
