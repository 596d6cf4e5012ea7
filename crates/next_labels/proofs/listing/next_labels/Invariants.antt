use Rattle.next_labels.specs.Found.{IsFoundUpTo}
use Rattle.next_labels.proofs.listing.next_labels.Given as goal

abbrev pub invariant-loop-number : goal.invariant-loop-number
invariant-loop-number l = IsFoundUpTo l.fn.nets l.fn.set l.number l.found.keys
