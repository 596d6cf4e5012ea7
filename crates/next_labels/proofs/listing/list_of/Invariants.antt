use Rattle.std.proofs.Common.{◌≡◌, ◌++◌}
use Rattle.next_labels.proofs.listing.list_of.Given as goal

abbrev pub invariant-loop-label : goal.invariant-loop-label
invariant-loop-label l = l.list ++ l.label-iterator ≡ l.fn.found.keys
