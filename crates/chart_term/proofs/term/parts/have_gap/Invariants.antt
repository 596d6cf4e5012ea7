use Rattle.std.proofs.Common.{◌≡◌, false, take}
use Rattle.chart_term.specs.NormalForms.{has_gap}
use Rattle.chart_term.specs.Rows.{parts_of}
use Rattle.chart_term.proofs.term.parts.have_gap.Given as goal

abbrev pub invariant-loop-part : goal.invariant-loop-part
invariant-loop-part l = has_gap (parts_of (take l.part-index l.parts)) ≡ false
