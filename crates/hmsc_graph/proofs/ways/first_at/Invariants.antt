use Rattle.std.proofs.Common.{◌≡◌, ◌<◌, ℕ, Some, slice_get, false}
use Rattle.hmsc_graph.specs.Graphs.{arrives}
use Rattle.hmsc_graph.specs.Spots.{goal_of}
use Rattle.hmsc_graph.specs.declared.ways.Step.{Step}
use Rattle.hmsc_graph.proofs.ways.first_at.Given as goal

abbrev pub invariant-loop-index : goal.invariant-loop-index
invariant-loop-index l = (j : ℕ) (step : Step) → j < l.index → slice_get l.steps j ≡ Some step → arrives l.net (goal_of l.to) step.node ≡ false
