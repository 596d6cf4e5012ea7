-- What the plain bodies, items and inline expressions are of the types' values.
use Rattle.std.specs.Prelude.{List, map}
use Rattle.std.proofs.Common.{◌≡◌, ◌∙◌, sym, ap}
use Rattle.msc_meaning.specs.declared.body.Body.{Body, out-Body, fold_out-Body}
use Rattle.msc_meaning.specs.declared.body.EventNode as rust_event
use Rattle.msc_meaning.specs.declared.body.Item.{fold-roll-Item}
use Rattle.msc_meaning.specs.declared.body.Item.TheVariants as item
use Rattle.msc_meaning.specs.declared.body.Item.TheOpen.{Item-F}
use Rattle.msc_meaning.specs.declared.body.InlineItem.{InlineItem, out-InlineItem, fold_out-InlineItem}
use Rattle.msc_meaning.specs.declared.body.ReferenceItem.{ReferenceItem}
use Rattle.msc_meaning.specs.Bodies as body
use Rattle.msc_meaning.specs.Views.{item_step, body_step, inline_step, body_view, item_view, node_view, reference_view}
use Rattle.msc_meaning.specs.ItemViews.{inline_view, items_view, bodies_view}

pub body_is : (b : Body) → body_view b ≡ body.level (out-Body b).cover (items_view (out-Body b).items.items) (out-Body b).pairs
body_is = fold_out-Body body.WovenItem body.Body body.WovenItem item_step body_step inline_step

abbrev pub part_of : InlineItem → body.InlinePart
part_of i = record { lower = (out-InlineItem i).lower; upper = (out-InlineItem i).upper; name = (out-InlineItem i).name; cover = (out-InlineItem i).cover; place = (out-InlineItem i).place }

pub inline_is : (i : InlineItem) → inline_view i ≡ body.Inline (out-InlineItem i).form (part_of i) (bodies_view (out-InlineItem i).operands.items)
inline_is = fold_out-InlineItem body.WovenItem body.Body body.WovenItem item_step body_step inline_step

pub single_is : (n : rust_event.EventNode) → item_view (item.Single n) ≡ body.Single (node_view n)
single_is n = ap item_view (sym (item.rolls-Single n)) ∙ fold-roll-Item body.WovenItem body.Body body.WovenItem item_step body_step inline_step (Item-F.Single n)

pub coregion_is : (ns : List rust_event.EventNode) → item_view (item.Coregion ns) ≡ body.Coregion (map node_view ns)
coregion_is ns = ap item_view (sym (item.rolls-Coregion ns)) ∙ fold-roll-Item body.WovenItem body.Body body.WovenItem item_step body_step inline_step (Item-F.Coregion ns)

pub inline_item_is : (i : InlineItem) → item_view (item.Inline i) ≡ inline_view i
inline_item_is i = ap item_view (sym (item.rolls-Inline i)) ∙ fold-roll-Item body.WovenItem body.Body body.WovenItem item_step body_step inline_step (Item-F.Inline i)

pub reference_is : (r : ReferenceItem) → item_view (item.Reference r) ≡ reference_view r
reference_is r = ap item_view (sym (item.rolls-Reference r)) ∙ fold-roll-Item body.WovenItem body.Body body.WovenItem item_step body_step inline_step (Item-F.Reference r)
