use Rattle.std.proofs.Common.{◌≡◌, length}
use Rattle.term_bench.proofs.ring.labels.Given as goal

abbrev pub invariant-loop-number : goal.invariant-loop-number
invariant-loop-number l = length l.labels ≡ l.number
