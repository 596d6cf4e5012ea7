use Rattle.std.proofs.Common.{◌≡◌, ◌++◌, drop}
use Rattle.msc_meaning.specs.Ties.{before_pairs}
use Rattle.general_ordering.specs.NamedEvents.{group_of}
use Rattle.general_ordering.proofs.ordering.add_earlier.Given as goal

abbrev pub invariant-loop-name : goal.invariant-loop-name
invariant-loop-name l = l.list ++ before_pairs (group_of l.named) l.number (drop l.name-index l.names) ≡ l.initial.list ++ before_pairs (group_of l.named) l.number l.names
