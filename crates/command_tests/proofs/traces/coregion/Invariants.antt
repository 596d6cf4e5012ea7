use Rattle.std.proofs.Common.{[]}
use Rattle.chart_term.specs.Properties.{Each}
use Rattle.command_tests.specs.Samples.{IsSample}
use Rattle.command_tests.proofs.traces.coregion.Given as goal

abbrev pub invariant-loop-number : goal.invariant-loop-number
invariant-loop-number l = Each IsSample l.parts
