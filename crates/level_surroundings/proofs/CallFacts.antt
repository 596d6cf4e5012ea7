-- What a level says of gates, and that it says nothing where it calls none.
use Rattle.std.proofs.Common.{◌≡◌, ℕ, List, [], refl, sym, ap}
use Rattle.msc_meaning.specs.Bodies.{WovenItems}
use Rattle.msc_meaning.specs.Calls.{Call, calls}
use Rattle.msc_meaning.specs.ChartUnfoldings.{gates_of}
use Rattle.msc_meaning.specs.FarEnds.{Gates}
use Rattle.msc_meaning.specs.Tables.{Table}
use Rattle.gate_ends.specs.FoundEnds.{GateEvents, called_ends}
use Rattle.gate_ends.specs.LevelGates.{level_gates}
use Rattle.level_surroundings.specs.HeldGates.{uncalled}
use Rattle.level_surroundings.specs.TableEnds.{ends_in}

pub gates_are : (table : Table) (held : WovenItems) → level_gates table held ≡ gates_of held (ends_in table held)
unfolding ends_in
gates_are table held = refl

no_ends : (chart_inner : List ℕ → List ℕ → GateEvents) (held : WovenItems) (cs : List Call) → cs ≡ [] → let g : Gates = record { calls = cs; ends = called_ends chart_inner held cs } in uncalled ≡ g
no_ends chart_inner held cs none = ap (λ (ds : List Call). let g : Gates = record { calls = ds; ends = called_ends chart_inner held ds } in g) (sym none)

-- where none is called, there is nothing to say
pub none_called : (table : Table) (held : WovenItems) → calls held ≡ [] → uncalled ≡ level_gates table held
none_called table held none = no_ends _ held (calls held) none
