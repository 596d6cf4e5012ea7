-- Which way messages go.
use Rattle.std.specs.Prelude.{ℕ, List, [], Bool, true, false, Option, Some, None}
use Rattle.msc_base.specs.declared.label.Kind.{Kind}
use Rattle.msc_base.specs.declared.label.Kind.TheVariants.{Output, Input, OutputLost, InputFound, Action, TimerStart, TimerStop, Timeout, Create}
use Rattle.msc_tree.specs.declared.event.Target.{Target}
use Rattle.msc_tree.specs.declared.event.Target.TheVariants.{Nobody, Env, Instance, Gate}
use Rattle.msc_tree.specs.declared.event.Direction.{Direction}
use Rattle.msc_tree.specs.declared.event.Direction.TheVariants.{Out, In}

-- the two are one direction
abbrev pub is_direction : Direction → Direction → Bool
is_direction Out Out = true
is_direction In In = true
is_direction Out In = false
is_direction In Out = false

-- the instance at the far end
abbrev pub far_name : Target → List ℕ
far_name (Instance name) = name
far_name Nobody = []
far_name (Env gate) = []
far_name (Gate reference gate) = []

-- the direction, where the other end is an instance
abbrev pub to_instance : Direction → Target → Option Direction
to_instance direction (Instance name) = Some direction
to_instance direction Nobody = None
to_instance direction (Env gate) = None
to_instance direction (Gate reference gate) = None

-- the direction of an output to an instance and of an input from one, and none for other events
abbrev pub way_by : Kind → Target → Option Direction
way_by Output target = to_instance Out target
way_by Input target = to_instance In target
way_by OutputLost target = None
way_by InputFound target = None
way_by Action target = None
way_by TimerStart target = None
way_by TimerStop target = None
way_by Timeout target = None
way_by Create target = None
