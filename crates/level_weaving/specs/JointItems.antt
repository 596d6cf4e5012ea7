-- Items that are inline expressions or references.
use Rattle.std.specs.Prelude.{ℕ, List, []}
use Rattle.level_pieces.specs.ItemParts.{refer_item}
use Rattle.msc_base.specs.declared.place.Place.{Place}
use Rattle.msc_meaning.specs.Bodies.{Bodies, Coregion, Inline, WovenItem}
use Rattle.msc_tree.specs.Statements.{Form, Refer}
use Rattle.msc_tree.specs.Statements as tree

-- the item of that form, an inline expression or a reference, which begins at that place and covers these instances, with these operands
abbrev pub joint_item_of : List (List ℕ) → Place → Form → Bodies → WovenItem
joint_item_of cover place (tree.Inline head held) operands = Inline head.form (record { lower = head.lower; upper = head.upper; name = head.name; cover = cover; place = place }) operands
joint_item_of cover place (Refer r) operands = refer_item cover place r
joint_item_of cover place _ operands = Coregion []
