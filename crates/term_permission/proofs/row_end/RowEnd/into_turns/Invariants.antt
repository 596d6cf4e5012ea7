use Rattle.std.proofs.Common.{◌≡◌, take}
use Rattle.chart_term.specs.NormalForms.{begun}
use Rattle.term_permission.proofs.row_end.RowEnd.into_turns.Given as goal

abbrev pub invariant-loop-index : goal.invariant-loop-index
invariant-loop-index l = l.turns ≡ begun (take l.index l.parts)
