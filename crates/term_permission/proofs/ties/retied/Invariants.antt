use Rattle.std.proofs.Common.{length, ◌-◌}
use Rattle.chart_term.specs.NormalForms.{numbers}
use Rattle.term_permission.proofs.Retying.{IsWalked}
use Rattle.term_permission.proofs.ties.retied.Given as goal

abbrev pub invariant-loop-at : goal.invariant-loop-at
invariant-loop-at l = IsWalked l.gone (numbers l.fn.inner) l.pairs l.kept l.from

abbrev pub decreases-loop-at : goal.decreases-loop-at
decreases-loop-at l = length l.kept - l.from
