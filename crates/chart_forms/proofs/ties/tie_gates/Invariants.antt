use Rattle.std.proofs.Common.{◌≡◌, drop}
use Rattle.chart_forms.specs.TiedTexts.{tie_gates}
use Rattle.chart_forms.proofs.ties.tie_gates.Given as goal

abbrev pub invariant-loop-join : goal.invariant-loop-join
invariant-loop-join l = tie_gates (drop l.join-index l.joins) ≡ tie_gates l.joins
