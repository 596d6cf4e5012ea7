use Rattle.std.proofs.Common.{◌≡◌, [], length}
use Rattle.term_bench.proofs.ring.labelled.Given as goal

abbrev pub invariant-loop-number : goal.invariant-loop-number
invariant-loop-number l = record {
  tables : l.nets.tables ≡ [];
  labels : length l.nets.labels ≡ l.number;
}
