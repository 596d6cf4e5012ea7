use Rattle.std.proofs.Common.{◌≡◌, ◌≤◌, drop, length, map, option_map}
use Rattle.msc_tree.specs.Expressions.{expressions}
use Rattle.msc_tree.specs.Views.{expression_view}
use Rattle.gate_tables.specs.FactViews.{seen_view}
use Rattle.gate_tables.specs.KeptMaps.{kept_of}
use Rattle.gate_tables.specs.KnownFacts.{parts_known}
use Rattle.gate_tables.proofs.gate_search.+gate_search.Given as goal

abbrev pub invariant-parts_gate-loop-left : goal.invariant-parts_gate-loop-left
invariant-parts_gate-loop-left l = record {
  low : l.left ≤ length l.parts;
  made : option_map seen_view l.facts ≡ parts_known (kept_of l.known) l.all (expressions (map expression_view (drop l.left l.parts))) l.gate;
}

abbrev pub decreases-parts_gate-loop-left : goal.decreases-parts_gate-loop-left
decreases-parts_gate-loop-left l = l.left
