use Rattle.std.specs.Prelude.{◌≡◌}
use Rattle.term_bench.specs.Charts.{tied_tower}
use Rattle.term_bench.proofs.towers.tied_tower.Given as goal

abbrev pub invariant-loop-level : goal.invariant-loop-level
invariant-loop-level l = l.inner ≡ tied_tower l.level
