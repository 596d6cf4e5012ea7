use Rattle.std.proofs.Common.{◌≡◌, take}
use Rattle.expanded_charts.specs.Above.{above_view}
use Rattle.expanded_charts.specs.Expanding.{past_shown}
use Rattle.expanded_charts.specs.ShownGates.{gates_view}
use Rattle.expanded_charts.proofs.above.past_gates.Given as goal

abbrev pub invariant-loop-shown : goal.invariant-loop-shown
invariant-loop-shown l = gates_view l.list.items ≡ past_shown (above_view l.above) (gates_view (take l.shown-index l.gates))
