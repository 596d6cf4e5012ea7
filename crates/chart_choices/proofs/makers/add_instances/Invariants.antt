use Rattle.std.proofs.Common.{drop}
use Rattle.chart_choices.proofs.Instances.{AreLeft}
use Rattle.chart_choices.proofs.makers.add_instances.Given as goal

abbrev pub invariant-loop-label : goal.invariant-loop-label
invariant-loop-label l = AreLeft l.labels l.initial.makers.keys (drop l.label-index l.labels) l.makers.keys
