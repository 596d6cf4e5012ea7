use Rattle.std.proofs.Common.{◌≡◌, ◌≤◌, List, ℕ, drop, length, map}
use Rattle.msc_tree.specs.Expressions.{expressions}
use Rattle.msc_tree.specs.Views.{expression_view}
use Rattle.gate_tables.specs.FactMaps.{at_gate}
use Rattle.gate_tables.specs.KeptMaps.{kept_of}
use Rattle.gate_tables.specs.KnownFacts.{parts_known}
use Rattle.gate_tables.proofs.expressions.+expressions.Given as goal

abbrev pub invariant-parts_seen-loop-left : goal.invariant-parts_seen-loop-left
invariant-parts_seen-loop-left l = record {
  low : l.left ≤ length l.parts;
  made : (g : List ℕ) → at_gate l.made g ≡ parts_known (kept_of l.known) l.all (expressions (map expression_view (drop l.left l.parts))) g;
}

abbrev pub decreases-parts_seen-loop-left : goal.decreases-parts_seen-loop-left
decreases-parts_seen-loop-left l = l.left
