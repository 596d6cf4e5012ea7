use Rattle.std.proofs.Common.{ap, ◌∙◌, ◌+◌}
use Rattle.chart_term.specs.NormalForms.{has_gap}
use Rattle.term_permission.proofs.Joins.{turns-both, turns-drop}
use Rattle.term_permission.proofs.left.replaced.Goals as goal

pub returns-clause-turns : goal.returns-clause-turns
returns-clause-turns c =
    ap has_gap c.in_ok-whole.ensures
    ∙ turns-both c.in_ok-front.front c.in_ok-behind.behind (ap has_gap c.in_ok-front.ensures ∙ turns-both c.args.before.now c.in_ok-opened.opened c.requires.before c.in_ok-opened.ensures.turns) (ap has_gap c.in_ok-behind.ensures ∙ turns-drop c.args.parts.now (c.args.index + 1) c.requires.turns)
