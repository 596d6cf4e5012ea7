use Rattle.std.proofs.Common.{◌≡◌, ◌∙◌, None, Bor, List, ℕ, ap}
use Rattle.std.specs.Map.{lookup}
use Rattle.std.specs.Str.{bytes_eq}
use Rattle.indexmap.specs.IndexMap.{get_by}
use Rattle.gate_tables.proofs.MapSteps.{itself, lookup_last}
use Rattle.gate_tables.proofs.named.NamedFacts.pop.Goals as goal

pub returns-clause-some : goal.returns-clause-some
returns-clause-some c = record {
  was =
      let name = c.in_ok-name.name in
      let none : get_by (λ (k : Bor (List ℕ)). bytes_eq name.now k.now) c.pop.new.self ≡ None = c.in_ok-name.ensures.updates.1 in
      ap (λ es. lookup (λ (k : Bor (List ℕ)). bytes_eq name.now k.now) es) c.in_ok-name.ensures.entries
      ∙ lookup_last (λ (k : Bor (List ℕ)). bytes_eq name.now k.now) c.pop.new.self.entries name c.in_ok-name.map none (itself name.now);
  now = λ n. c.in_ok-name.ensures.updates.0 (record { ref_ptr = (0, 0); now = n });
}
