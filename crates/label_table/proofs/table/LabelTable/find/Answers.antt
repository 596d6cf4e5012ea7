use Rattle.std.proofs.Common.{slice_get, sym, ap, ◌∙◌}
use Rattle.label_table.specs.Labels.{label_number}
use Rattle.label_table.proofs.Stored.{stored_number}
use Rattle.label_table.proofs.table.LabelTable.find.Goals as goal

-- a number at which the label stands is its number
pub returns-in-Some : goal.returns-in-Some
returns-in-Some c =
    let n = c.in-Some.number in
    let there = ap (λ ls. slice_get ls n) c.self.view_is ∙ c.has_at.ensures.0 c.if-has_at.true in
    sym (stored_number c.self.inside.texts c.self.inside.keys c.self.inside.labels.items c.self.invariant c.args.label.now n there)
    ∙ ap (λ ls. label_number ls c.args.label.now) c.self.view_is
