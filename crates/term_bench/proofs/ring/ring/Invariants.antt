use Rattle.std.proofs.Common.{◌≡◌, length}
use Rattle.term_bench.proofs.ring.ring.Given as goal

abbrev pub invariant-loop-number : goal.invariant-loop-number
invariant-loop-number l = length l.lines ≡ l.number
