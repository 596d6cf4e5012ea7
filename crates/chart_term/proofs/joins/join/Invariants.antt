use Rattle.std.proofs.Common.{◌≡◌, ◌++◌, map, take}
use Rattle.chart_term.specs.Modes.{mode_of}
use Rattle.chart_term.specs.NormalForms.{flat}
use Rattle.chart_term.specs.Rows.{parts_of}
use Rattle.chart_term.specs.Terms.{Turn}
use Rattle.chart_term.proofs.joins.join.Given as goal

abbrev pub invariant-loop-part : goal.invariant-loop-part
invariant-loop-part l = l.opened.list ++ parts_of l.opened.run.items ≡ map Turn (flat (mode_of l.mode) (take l.part-index l.part-items))
