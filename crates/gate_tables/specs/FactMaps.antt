-- Serves private contracts alone.
-- What maps of facts have at a gate.
use Rattle.std.specs.Prelude.{◌≡◌, ℕ, List, Option, None, Some, if◌then◌else◌, option_map}
use Rattle.std.specs.Borrow.{Bor}
use Rattle.std.specs.Str.{bytes_eq}
use Rattle.indexmap.specs.IndexMap.{get_by, index_map_len}
use Rattle.gate_tables.specs.FactViews.{seen_view}
use Rattle.gate_tables.specs.GateFacts.{Facts}
use Rattle.gate_tables.specs.declared.fact_map.FactMap.{FactMap}

abbrev pub at_gate : FactMap → List ℕ → Option Facts
at_gate m g = option_map seen_view (get_by (λ (k : Bor (List ℕ)). bytes_eq g k.now) m.held)

abbrev pub gate_count : FactMap → ℕ
gate_count m = index_map_len m.held

-- the gate with these facts is taken out
pub record IsPopped (old new : FactMap) (gate : List ℕ) (facts : Facts) : Type 0 where
  pub was : at_gate old gate ≡ Some facts
  pub now : (g : List ℕ) → at_gate new g ≡ (if bytes_eq gate g then None else at_gate old g)
