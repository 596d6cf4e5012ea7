use Rattle.std.proofs.Common.{take}
use Rattle.expanded_charts.specs.GateNumbers.{HasNumbers}
use Rattle.expanded_charts.specs.ShownGates.{gates_view}
use Rattle.expanded_charts.proofs.gate_numbers.gate_numbers.Given as goal

abbrev pub invariant-loop-shown : goal.invariant-loop-shown
invariant-loop-shown l = HasNumbers l.numbers (gates_view (take l.shown-index l.gates))
