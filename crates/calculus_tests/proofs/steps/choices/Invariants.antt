use Rattle.std.specs.Prelude.{[]}
use Rattle.calculus_tests.specs.Samples.{IsSample}
use Rattle.calculus_tests.proofs.steps.choices.Given as goal

abbrev pub invariant-loop-number : goal.invariant-loop-number
invariant-loop-number l = IsSample [] l.all
