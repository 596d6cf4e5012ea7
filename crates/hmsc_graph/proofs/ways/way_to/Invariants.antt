use Rattle.std.proofs.Common.{◌≡◌, ℕ, List, Some, length, reverse, slice_get, true}
use Rattle.hmsc_graph.specs.Graphs.{Net, Spot, Goal, arrives}
use Rattle.hmsc_graph.specs.Steps.{AreSteps, IsEarlier, IsEndOfWay, steps_back}
use Rattle.hmsc_graph.specs.declared.ways.Step.{Step}
use Rattle.hmsc_graph.proofs.ways.way_to.Given as goal

abbrev pub invariant-loop-at : goal.invariant-loop-at
invariant-loop-at l = record {
  within : IsEarlier l.at (length l.steps);
  way : (g : Net) (allowed : List ℕ) (from : Spot) (to : Goal) (step : Step) → AreSteps g allowed from l.steps → slice_get l.steps l.fn.index ≡ Some step → arrives g to step.node ≡ true
      → IsEndOfWay g allowed from to l.steps l.at (reverse l.way.items);
}

abbrev pub decreases-loop-at : goal.decreases-loop-at
decreases-loop-at l = steps_back l.at
