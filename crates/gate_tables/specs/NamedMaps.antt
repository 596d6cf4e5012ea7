-- Serves private contracts alone.
-- What maps of named facts have at a name and a gate.
use Rattle.std.specs.Borrow.{Bor}
use Rattle.std.specs.Prelude.{◌≡◌, ℕ, List, Option, None, Some, if◌then◌else◌}
use Rattle.std.specs.Str.{bytes_eq}
use Rattle.indexmap.specs.IndexMap.{get_by, index_map_len}
use Rattle.gate_tables.specs.FactMaps.{at_gate}
use Rattle.gate_tables.specs.GateFacts.{Facts}
use Rattle.gate_tables.specs.declared.fact_map.FactMap.{FactMap}
use Rattle.gate_tables.specs.declared.named.NamedFacts.{NamedFacts}

abbrev pub map_named : NamedFacts → List ℕ → Option FactMap
map_named m n = get_by (λ (k : Bor (List ℕ)). bytes_eq n k.now) m.held

-- of the gate, where there is a map
abbrev pub gate_of : Option FactMap → List ℕ → Option Facts
gate_of None g = None
gate_of (Some m) g = at_gate m g

abbrev pub named_gate : NamedFacts → List ℕ → List ℕ → Option Facts
named_gate m n g = gate_of (map_named m n) g

abbrev pub named_count : NamedFacts → ℕ
named_count m = index_map_len m.held

-- the name with this map is taken out
pub record IsNamePopped (old new : NamedFacts) (name : List ℕ) (map : FactMap) : Type 0 where
  pub was : map_named old name ≡ Some map
  pub now : (n : List ℕ) → map_named new n ≡ (if bytes_eq name n then None else map_named old n)
