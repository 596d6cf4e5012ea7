use Rattle.std.proofs.Common.{◌≡◌, ◌∙◌, None, Bor, List, ℕ, ap, option_map}
use Rattle.std.specs.Map.{lookup}
use Rattle.std.specs.Str.{bytes_eq}
use Rattle.indexmap.specs.IndexMap.{get_by}
use Rattle.gate_tables.specs.FactViews.{seen_view}
use Rattle.gate_ends.proofs.Walks.{mapped_if}
use Rattle.gate_tables.proofs.MapSteps.{itself, lookup_last}
use Rattle.gate_tables.proofs.fact_map.FactMap.pop.Goals as goal

pub returns-clause-some : goal.returns-clause-some
returns-clause-some c = record {
  was =
      let gate = c.in_ok-gate.gate in
      let none : get_by (λ (k : Bor (List ℕ)). bytes_eq gate.now k.now) c.pop.new.self ≡ None = c.in_ok-gate.ensures.updates.1 in
      ap (λ es. option_map seen_view (lookup (λ (k : Bor (List ℕ)). bytes_eq gate.now k.now) es)) c.in_ok-gate.ensures.entries
      ∙ ap (option_map seen_view) (lookup_last (λ (k : Bor (List ℕ)). bytes_eq gate.now k.now) c.pop.new.self.entries gate c.in_ok-gate.facts none (itself gate.now));
  now = λ g.
      ap (option_map seen_view) (c.in_ok-gate.ensures.updates.0 (record { ref_ptr = (0, 0); now = g }))
      ∙ mapped_if seen_view (bytes_eq c.in_ok-gate.gate.now g) None (get_by (λ (k : Bor (List ℕ)). bytes_eq g k.now) c.args.self.now.held);
}
