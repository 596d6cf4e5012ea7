use Rattle.std.proofs.Common.{◌≡◌, ◌++◌, drop, map}
use Rattle.msc_instances.specs.Notes.{Declared}
use Rattle.msc_instances.proofs.walk.declared.Given as goal

abbrev pub invariant-loop-name : goal.invariant-loop-name
invariant-loop-name l = l.notes ++ map Declared (drop l.name-index l.names) ≡ l.initial.notes ++ map Declared l.names
