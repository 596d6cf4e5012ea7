use Rattle.std.proofs.Common.{◌≡◌, ◌++◌}
use Rattle.chart_choices.proofs.makers.names_of.Given as goal

abbrev pub invariant-loop-instance : goal.invariant-loop-instance
invariant-loop-instance l = l.names ++ l.instance-iterator ≡ l.fn.makers.keys
