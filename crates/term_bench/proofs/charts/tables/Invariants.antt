use Rattle.std.specs.Prelude.{◌≡◌, [], length}
use Rattle.term_bench.proofs.charts.tables.Given as goal

abbrev pub invariant-loop-number : goal.invariant-loop-number
invariant-loop-number l = record {
  tables : l.nets.tables ≡ [];
  labels : length l.nets.labels ≡ l.number;
}
