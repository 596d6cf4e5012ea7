use Rattle.std.proofs.Common.{◌≡◌, ◌++◌, drop}
use Rattle.msc_meaning.specs.Ties.{after_pairs}
use Rattle.general_ordering.specs.NamedEvents.{group_of}
use Rattle.general_ordering.proofs.ordering.add_later.Given as goal

abbrev pub invariant-loop-name : goal.invariant-loop-name
invariant-loop-name l = l.list ++ after_pairs (group_of l.named) l.number (drop l.name-index l.names) ≡ l.initial.list ++ after_pairs (group_of l.named) l.number l.names
