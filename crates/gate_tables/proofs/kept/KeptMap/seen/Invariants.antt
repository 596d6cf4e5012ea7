use Rattle.std.proofs.Common.{◌≡◌, ◌≤◌, List, ℕ, drop, option_map}
use Rattle.std.specs.Map.{lookup}
use Rattle.std.specs.Str.{bytes_eq}
use Rattle.gate_tables.specs.FactMaps.{at_gate}
use Rattle.gate_tables.specs.FactViews.{facts_view}
use Rattle.gate_tables.specs.KeptMaps.{kept_count}
use Rattle.gate_tables.proofs.kept.KeptMap.seen.Given as goal

abbrev pub invariant-loop-left : goal.invariant-loop-left
invariant-loop-left l = record {
  low : l.left ≤ kept_count l.self;
  made : (g : List ℕ) → at_gate l.map g ≡ option_map facts_view (lookup (λ k. bytes_eq g k.items) (drop l.left l.self.held.entries));
}

abbrev pub decreases-loop-left : goal.decreases-loop-left
decreases-loop-left l = l.left
