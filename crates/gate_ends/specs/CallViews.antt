-- Serves private contracts alone.
-- The plain calls that those of the code stand for.
use Rattle.std.specs.Prelude.{◌≡◌, ◌&&◌, ℕ, List, map, option_map}
use Rattle.std.specs.List.{find}
use Rattle.std.specs.Option.{option_copied}
use Rattle.std.specs.Str.{bytes_eq}
use Rattle.indexmap.specs.IndexMap.{IndexMap, get_by}
use Rattle.msc_meaning.specs.Calls as plain
use Rattle.msc_meaning.specs.Views.{node_view}
use Rattle.gate_ends.specs.declared.calls.Call.{Call}
use Rattle.gate_ends.specs.declared.calls.CalledGate.{CalledGate}
use Rattle.gate_ends.specs.declared.calls.Caller.{Caller}
use Rattle.gate_ends.specs.declared.calls.Caller.TheVariants.{Event, Gate}

abbrev pub caller_view : Caller → plain.Caller
caller_view (Event n) = plain.an_event (node_view n.now)
caller_view (Gate name gate) = plain.a_gate (option_copied name) gate.now

abbrev pub call_view : Call → plain.Call
call_view c = record { name = c.name.now; gate = c.gate.now; by = caller_view c.by }

abbrev pub calls_view : List Call → List plain.Call
calls_view cs = map call_view cs

-- the map has the first caller of each gate
abbrev pub AreFirst : {S : Type 0} → IndexMap CalledGate Caller S → List plain.Call → Type 0
AreFirst m cs = (name gate : List ℕ) → option_map caller_view (get_by (λ (k : CalledGate). bytes_eq name k.name.now && bytes_eq gate k.gate.now) m) ≡ option_map (λ (c : plain.Call). c.by) (find (plain.is_call_of name gate) cs)
