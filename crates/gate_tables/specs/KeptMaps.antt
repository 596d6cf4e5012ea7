-- Serves private contracts alone.
-- What kept facts are at a gate, and at a name and a gate.
use Rattle.std.specs.Prelude.{ℕ, Bool, List, Option, None, Some, is_some, option_map, slice_get}
use Rattle.std.specs.Str.{bytes_eq}
use Rattle.indexmap.specs.IndexMap.{get_by, index_map_len}
use Rattle.gate_tables.specs.FactViews.{facts_view}
use Rattle.gate_tables.specs.GateFacts.{Facts}
use Rattle.gate_tables.specs.declared.kept.KeptMap.{KeptMap}
use Rattle.gate_tables.specs.declared.kept.KeptMaps.{KeptMaps}

abbrev pub kept_gate : KeptMap → List ℕ → Option Facts
kept_gate m g = option_map facts_view (get_by (λ k. bytes_eq g k.items) m.held)

abbrev pub kept_count : KeptMap → ℕ
kept_count m = index_map_len m.held

-- a gate with its facts
pub record GateWith : Type 0 where
  pub gate : List ℕ
  pub facts : Facts

abbrev pub entry_at : KeptMap → ℕ → Option GateWith
entry_at m i = option_map (λ e. record { gate = e.0.items; facts = facts_view e.1 }) (slice_get m.held.entries i)

-- of the gate, where there is a map
abbrev pub gate_in : Option KeptMap → List ℕ → Option Facts
gate_in None g = None
gate_in (Some m) g = kept_gate m g

abbrev pub has_name : KeptMaps → List ℕ → Bool
has_name ms n = is_some (get_by (λ k. bytes_eq n k.items) ms.held)

abbrev pub kept_of : KeptMaps → List ℕ → List ℕ → Option Facts
kept_of ms n g = gate_in (get_by (λ k. bytes_eq n k.items) ms.held) g
