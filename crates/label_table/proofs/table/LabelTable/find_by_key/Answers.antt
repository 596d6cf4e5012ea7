use Rattle.std.proofs.Common.{slice_get, sym, ap, ◌∙◌, true≢false}
use Rattle.label_table.specs.Labels.{label_number}
use Rattle.label_table.proofs.Stored.{stored_number, without_key, without_number, other_label}
use Rattle.label_table.proofs.table.LabelTable.find_by_key.Goals as goal

-- without a key, and without its number, the table lacks the label
pub returns-in_err-key : goal.returns-in_err-key
returns-in_err-key c =
    c.from_residual.ensures
    ∙ sym (without_key c.self.inside.texts c.self.inside.keys c.self.inside.labels.items c.self.invariant c.args.label.now c.in_err-key.ensures.none)
    ∙ ap (λ ls. label_number ls c.args.label.now) c.self.view_is

pub returns-in_err-number : goal.returns-in_err-number
returns-in_err-number c =
    c.from_residual-in_err-number.ensures
    ∙ sym (without_number c.self.inside.texts c.self.inside.keys c.self.inside.labels.items c.self.invariant c.args.label.now c.in_ok-key.key c.in_ok-key.ensures.found (sym c.in_err-number.ensures.value))
    ∙ ap (λ ls. label_number ls c.args.label.now) c.self.view_is

-- the number is the label's, or that of another, and then the table lacks the label
pub returns-then-has_at : goal.returns-then-has_at
returns-then-has_at c =
    let n = c.in_ok-number.field-0.now in
    let there = ap (λ ls. slice_get ls n) c.self.view_is ∙ c.has_at.ensures.0 c.if-has_at.true in
    sym (stored_number c.self.inside.texts c.self.inside.keys c.self.inside.labels.items c.self.invariant c.args.label.now n there)
    ∙ ap (λ ls. label_number ls c.args.label.now) c.self.view_is

pub returns-else-has_at : goal.returns-else-has_at
returns-else-has_at c =
    let n = c.in_ok-number.field-0.now in
    sym (other_label c.self.inside.texts c.self.inside.keys c.self.inside.labels.items c.self.invariant c.args.label.now c.in_ok-key.key c.in_ok-key.ensures.found n
    (sym c.in_ok-number.ensures.value)
    (λ h. true≢false (sym (c.has_at.ensures.1 (sym (ap (λ ls. slice_get ls n) c.self.view_is) ∙ h)) ∙ c.if-has_at.false)))
    ∙ ap (λ ls. label_number ls c.args.label.now) c.self.view_is
