use Rattle.std.proofs.Common.{rules, ◌≡◌, ◌∙◌, Some, None, sym, ap, List}
use Rattle.label_table.specs.Labels.{label_number}
use Rattle.msc_base.specs.declared.label.Label.{Label}
use Rattle.expanded_charts.proofs.Numbers.{label_last, label_new, label_old}
use Rattle.expanded_charts.proofs.numbering.number_label.Goals as goal

pub returns-in-Some-clause-labels : goal.returns-in-Some-clause-labels
returns-in-Some-clause-labels c =
    let at : label_number c.args.labels.now c.args.label ≡ Some c.in-Some.number = search rules in
    label_old c.args.labels.now c.args.label c.in-Some.number at

pub returns-clause-labels : goal.returns-clause-labels
returns-clause-labels c =
    let none : label_number c.args.labels.now c.args.label ≡ None = search rules in
    c.in_ok-number.ensures.ok ∙ label_new c.args.labels.now c.args.label none

pub returns-clause-number : goal.returns-clause-number
returns-clause-number c =
    let none : label_number c.args.labels.now c.args.label ≡ None = search rules in
    ap (λ (ls : List Label). label_number ls c.args.label) c.in_ok-number.ensures.ok ∙ (label_last c.args.labels.now c.args.label none ∙ ap (λ n. Some n) (sym c.in_ok-number.ensures.number))
