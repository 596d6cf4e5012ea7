use Rattle.std.proofs.Common.{◌≡◌, Some, sym, subst, ◌<◌, length, ap, ◌∙◌, Contains}
use Rattle.msc_base.specs.Stored.{most_numbered}
use Rattle.label_table.specs.Stores.{AreStored}
use Rattle.label_table.proofs.Stored.{stored_texts, stored_unchanged, stored_keys, stored_push}
use Rattle.label_table.proofs.table.LabelTable.add.Goals as goal

-- also where the label isn't stored, each text keeps its number
pub invariant_of-self-in_err-key : goal.invariant_of-self-in_err-key
invariant_of-self-in_err-key c =
    stored_texts c.self.inside.texts c.self.inside.keys c.self.inside.labels.items c.number_label.new.texts c.number_label.ensures.kept c.number_label.ensures.numbers c.self.invariant

pub invariant_of-self-in_err-insert : goal.invariant_of-self-in_err-insert
invariant_of-self-in_err-insert c =
    let texts = c.number_label.new.texts in
    let labels = c.self.inside.labels.items in
    stored_unchanged texts c.self.inside.keys labels c.insert.new.self c.in_err-insert.ensures.err
    (stored_texts c.self.inside.texts c.self.inside.keys labels texts c.number_label.ensures.kept c.number_label.ensures.numbers c.self.invariant)

-- a key may have a number that no label has
pub invariant_of-self-in_err-push : goal.invariant_of-self-in_err-push
invariant_of-self-in_err-push c =
    let texts = c.number_label.new.texts in
    let keys = c.self.inside.keys in
    let labels = c.self.inside.labels.items in
    let lacks : Contains labels c.args.label → ⊥ = λ h. c.requires.new (subst (λ ls. Contains ls c.args.label) c.self.view_is h) in
    let stored = stored_texts c.self.inside.texts keys labels texts c.number_label.ensures.kept c.number_label.ensures.numbers c.self.invariant in
    let keyed = stored_keys texts keys labels c.insert.new.self c.args.label c.in_ok-key.key c.len-number.result c.in_ok-key.ensures.key c.in_ok-insert.ensures.updates lacks stored in
    subst (AreStored texts c.insert.new.self) (sym c.in_err-push.ensures.items) keyed

pub invariant_of-self-2 : goal.invariant_of-self-2
invariant_of-self-2 c =
    let texts = c.number_label.new.texts in
    let keys = c.self.inside.keys in
    let labels = c.self.inside.labels.items in
    let lacks : Contains labels c.args.label → ⊥ = λ h. c.requires.new (subst (λ ls. Contains ls c.args.label) c.self.view_is h) in
    let stored = stored_texts c.self.inside.texts keys labels texts c.number_label.ensures.kept c.number_label.ensures.numbers c.self.invariant in
    let keyed = stored_keys texts keys labels c.insert.new.self c.args.label c.in_ok-key.key c.len-number.result c.in_ok-key.ensures.key c.in_ok-insert.ensures.updates lacks stored in
    let few : length labels < most_numbered = subst (λ ls. length ls < most_numbered) (sym c.self.view_is) c.requires.few in
    let last : c.len-number.result ≡ length labels = c.len-number.ensures ∙ sym (ap length c.self.view_is) in
    subst (AreStored texts c.insert.new.self) (sym c.in_ok-push.ensures.items)
    (stored_push texts c.insert.new.self labels c.args.label c.in_ok-key.key c.in_ok-key.ensures.key (c.in_ok-insert.ensures.updates.1 ∙ ap Some last) few keyed)
