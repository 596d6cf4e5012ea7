use Rattle.std.proofs.Common.{◌≡◌, ◌++◌, take}
use Rattle.chart_term.specs.NormalForms.{begun}
use Rattle.chart_term.proofs.choices.push_turns.Given as goal

abbrev pub invariant-loop-index : goal.invariant-loop-index
invariant-loop-index l = l.list ≡ l.fn.list ++ take l.index (begun l.turns)
