use Rattle.std.specs.Prelude.{[]}
use Rattle.calculus_tests.specs.Samples.{IsSample}
use Rattle.chart_term.specs.Properties.{Each}
use Rattle.calculus_tests.proofs.words.term_of.Given as goal

abbrev pub invariant-loop-word : goal.invariant-loop-word
invariant-loop-word l = Each (IsSample []) l.stack.items
