use Rattle.std.specs.Prelude.{◌≡◌, length}
use Rattle.term_bench.proofs.work.turn_of.Given as goal

abbrev pub invariant-loop-index : goal.invariant-loop-index
invariant-loop-index l = length l.turn ≡ l.index
