use Rattle.std.proofs.Common.{◌≡◌, ◌||◌, drop}
use Rattle.general_ordering.specs.EventNames.{names_none}
use Rattle.general_ordering.specs.NamedEvents.{group_of}
use Rattle.general_ordering.proofs.level_names.names_none.Given as goal

abbrev pub invariant-loop-name : goal.invariant-loop-name
invariant-loop-name l = (l.found || names_none (group_of l.named) (drop l.name-index l.names)) ≡ names_none (group_of l.named) l.names
