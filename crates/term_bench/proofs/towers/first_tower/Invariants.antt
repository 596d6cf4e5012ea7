use Rattle.term_bench.specs.Charts.{IsChart}
use Rattle.term_bench.proofs.towers.first_tower.Given as goal

abbrev pub invariant-loop : goal.invariant-loop
invariant-loop l = IsChart l.inner
