use Rattle.std.proofs.Common.{◌≡◌, ◌++◌, take}
use Rattle.expanded_charts.proofs.parts.append_gates.Given as goal

abbrev pub invariant-loop-shown : goal.invariant-loop-shown
invariant-loop-shown l = l.list.items ≡ l.fn.list.items ++ take l.shown-index l.others
