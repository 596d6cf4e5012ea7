use Rattle.std.proofs.Common.{◌≡◌, length}
use Rattle.gate_tables.specs.MessageTexts.{are_same_items}
use Rattle.gate_tables.proofs.messages.same_items.Given as goal

abbrev pub invariant-loop-item : goal.invariant-loop-item
invariant-loop-item l = are_same_items l.left l.right ≡ are_same_items l.items l.others

abbrev pub decreases-loop-item : goal.decreases-loop-item
decreases-loop-item l = length l.left
