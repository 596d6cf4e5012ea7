use Rattle.std.proofs.Common.{◌≡◌, ◌≤◌, List, ℕ, drop, length}
use Rattle.msc_meaning.specs.ItemViews.{items_view}
use Rattle.gate_tables.specs.KeptMaps.{kept_of}
use Rattle.gate_tables.specs.KnownFacts.{known_of}
use Rattle.gate_tables.specs.NamedMaps.{named_gate}
use Rattle.gate_tables.proofs.named.named_facts.Given as goal

abbrev pub invariant-loop-left : goal.invariant-loop-left
invariant-loop-left l = record {
  low : l.left ≤ length l.items;
  named : (n g : List ℕ) → named_gate l.named n g ≡ known_of (kept_of l.known) (items_view (drop l.left l.items)) n g;
}

abbrev pub decreases-loop-left : goal.decreases-loop-left
decreases-loop-left l = l.left
