-- Where the gates of a level lead to, as the code holds it.
use Rattle.std.specs.Option.{option_copied}
use Rattle.std.specs.Prelude.{ℕ, List, Option, None, Some}
use Rattle.msc_tree.specs.declared.reference.Join.{Join}
use Rattle.msc_meaning.specs.FarEnds.{GateMap, Gates, gates_inside, gates_referred, no_gates}
use Rattle.level_surroundings.specs.declared.ways.Ways.{Ways, fold-Ways}
use Rattle.level_surroundings.specs.declared.ways.Ways.TheOpen.{Ways-F, Way-F}

abbrev pub gates_by : Gates → Option (List ℕ) → Option (List Join) → GateMap → GateMap
gates_by level name None outside = gates_inside level name outside
gates_by level name (Some joins) outside = gates_referred level name joins outside

abbrev pub ways_step : Ways-F GateMap GateMap → GateMap
ways_step Ways-F.Nowhere = no_gates
ways_step (Ways-F.Through way) = way.value

abbrev pub way_step : Way-F GateMap GateMap → GateMap
way_step w = gates_by w.level (option_copied w.name) w.joins w.outside

abbrev pub ways_view : Ways → GateMap
ways_view = fold-Ways GateMap GateMap ways_step way_step
