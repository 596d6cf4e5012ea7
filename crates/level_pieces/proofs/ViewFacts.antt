-- What the plain forms and items are of the types' values.
use Rattle.std.specs.Prelude.{List, map}
use Rattle.std.proofs.Common.{◌≡◌, ◌∙◌, sym, ap}
use Rattle.msc_meaning.specs.Bodies as body
use Rattle.msc_meaning.specs.Views.{body_step, inline_step, item_step, item_view, node_view, reference_view}
use Rattle.msc_meaning.specs.declared.body.EventNode.{EventNode}
use Rattle.msc_meaning.specs.declared.body.Item.{fold-roll-Item}
use Rattle.msc_meaning.specs.declared.body.Item.TheVariants as item
use Rattle.msc_meaning.specs.declared.body.Item.TheOpen.{Item-F}
use Rattle.msc_meaning.specs.declared.body.ReferenceItem.{ReferenceItem}
use Rattle.msc_tree.specs.Statements as tree
use Rattle.msc_tree.specs.Views.{form_step, form_view, operand_step, statement_step}
use Rattle.msc_tree.specs.Views as view
use Rattle.msc_tree.specs.declared.event.RawEvent.{RawEvent}
use Rattle.msc_tree.specs.declared.statement.RawForm.{fold-roll-RawForm}
use Rattle.msc_tree.specs.declared.statement.RawForm.TheOpen.{RawForm-F}
use Rattle.msc_tree.specs.declared.statement.RawForm.TheVariants as raw
use Rattle.msc_tree.specs.declared.statement.RawReference.{RawReference}

pub single_is : (n : EventNode) → item_view (item.Single n) ≡ body.Single (node_view n)
single_is n = ap item_view (sym (item.rolls-Single n)) ∙ fold-roll-Item body.WovenItem body.Body body.WovenItem item_step body_step inline_step (Item-F.Single n)

pub coregion_is : (ns : List EventNode) → item_view (item.Coregion ns) ≡ body.Coregion (map node_view ns)
coregion_is ns = ap item_view (sym (item.rolls-Coregion ns)) ∙ fold-roll-Item body.WovenItem body.Body body.WovenItem item_step body_step inline_step (Item-F.Coregion ns)

pub single_form : (e : RawEvent) → form_view (raw.Single e) ≡ tree.Single e
single_form e = ap form_view (sym (raw.rolls-Single e)) ∙ fold-roll-RawForm tree.Form tree.Operand tree.Statement tree.Form tree.Item form_step operand_step statement_step view.inline_step view.item_step (RawForm-F.Single e)

pub coregion_form : (es : List RawEvent) → form_view (raw.Coregion es) ≡ tree.Coregion es
coregion_form es = ap form_view (sym (raw.rolls-Coregion es)) ∙ fold-roll-RawForm tree.Form tree.Operand tree.Statement tree.Form tree.Item form_step operand_step statement_step view.inline_step view.item_step (RawForm-F.Coregion es)

pub reference_is : (r : ReferenceItem) → item_view (item.Reference r) ≡ reference_view r
reference_is r = ap item_view (sym (item.rolls-Reference r)) ∙ fold-roll-Item body.WovenItem body.Body body.WovenItem item_step body_step inline_step (Item-F.Reference r)

pub reference_form : (r : RawReference) → form_view (raw.Reference r) ≡ tree.Refer (view.reference_view r)
reference_form r = ap form_view (sym (raw.rolls-Reference r)) ∙ fold-roll-RawForm tree.Form tree.Operand tree.Statement tree.Form tree.Item form_step operand_step statement_step view.inline_step view.item_step (RawForm-F.Reference r)
