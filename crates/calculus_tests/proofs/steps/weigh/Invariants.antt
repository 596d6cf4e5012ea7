use Rattle.calculus_tests.specs.Samples.{IsSample}
use Rattle.chart_term.specs.Properties.{Each}
use Rattle.calculus_tests.proofs.steps.weigh.Given as goal

abbrev pub invariant-loop-text : goal.invariant-loop-text
invariant-loop-text l = Each (IsSample l.nets.tables) l.set
