-- Serves private contracts alone.
-- The numbers that are shown of the gates of a level, by names.
use Rattle.std.specs.HashMap.{HashMap, get}
use Rattle.std.specs.Prelude.{◌≡◌, ◌&&◌, ℕ, Bool, List, [], Option, None, Some}
use Rattle.std.specs.Str.{bytes_eq}
use Rattle.msc_unfolding.specs.Unfoldings.{On}
use Rattle.expanded_charts.specs.Expanding.{Shown, numbers_with}
use Rattle.expanded_charts.specs.declared.gate_numbers.GateKey.{GateKey}

abbrev pub is_key : GateKey → GateKey → Bool
is_key a b = bytes_eq a.name.now b.name.now && bytes_eq a.gate.now b.gate.now

abbrev pub gate_list : Option (List ℕ) → List ℕ
gate_list None = []
gate_list (Some list) = list

-- the map has what is shown of each gate
abbrev pub HasNumbers : {S : Type 0} → HashMap GateKey (List ℕ) S → Shown → Type 0
HasNumbers numbers shown = (key : GateKey) → gate_list (get is_key numbers key) ≡ numbers_with (On key.name.now key.gate.now) shown
