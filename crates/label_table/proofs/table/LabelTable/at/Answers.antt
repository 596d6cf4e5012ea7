use Rattle.std.proofs.Common.{◌≡◌, ◌<◌, List, length, slice_get, Some, sym, ap, subst, ◌∙◌}
use Rattle.std.proofs.lemmas.Option.{slice_get-get_or}
use Rattle.msc_base.specs.declared.label.Label.{Label}
use Rattle.label_table.specs.Labels.{label_number}
use Rattle.label_table.proofs.Stored.{stored_number}
use Rattle.label_table.proofs.table.LabelTable.at.Goals as goal

pub returns-clause-number : goal.returns-clause-number
returns-clause-number c =
    let n = c.args.number in
    let l = c.index.result.now in
    let items = c.self.inside.labels.items in
    let within : n < length items = subst (λ (ls : List Label). n < length ls) (sym c.self.view_is) c.requires in
    let there : slice_get items n ≡ Some l = slice_get-get_or items n l within ∙ ap Some (sym c.index.ensures) in
    subst (λ (ls : List Label). label_number ls l ≡ Some n) c.self.view_is (stored_number c.self.inside.texts c.self.inside.keys items c.self.invariant l n there)
