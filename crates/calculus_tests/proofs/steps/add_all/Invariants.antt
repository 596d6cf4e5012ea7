use Rattle.std.proofs.Common.{◌≡◌, ◌≤◌, ◌+◌, length}
use Rattle.calculus_tests.proofs.steps.add_all.Given as goal

abbrev pub invariant-loop-number : goal.invariant-loop-number
invariant-loop-number l = (l.nets.tables ≡ l.initial.nets.tables) × (length l.nets.labels ≤ length l.initial.nets.labels + l.number)
