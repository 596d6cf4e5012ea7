-- Serves private contracts alone.
-- The plain lists of items and operands, and the plain inline expressions, that the types stand for.
use Rattle.std.specs.Prelude.{List, map}
use Rattle.msc_meaning.specs.declared.body.Body.{Body}
use Rattle.msc_meaning.specs.declared.body.Item.{Item}
use Rattle.msc_meaning.specs.declared.body.InlineItem.{InlineItem, fold-InlineItem}
use Rattle.msc_meaning.specs.Bodies as body
use Rattle.msc_meaning.specs.Views.{item_step, body_step, inline_step, body_view, item_view}

abbrev pub inline_view : InlineItem → body.WovenItem
inline_view = fold-InlineItem body.WovenItem body.Body body.WovenItem item_step body_step inline_step

abbrev pub items_view : List Item → body.WovenItems
items_view xs = body.items (map item_view xs)

abbrev pub bodies_view : List Body → body.Bodies
bodies_view bs = body.bodies (map body_view bs)
