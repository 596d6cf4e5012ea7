-- The events of a woven body with those of its operands, at any depth.
use Rattle.std.specs.Prelude.{Bool, true, false, List, [], ◌∷◌, ◌++◌}
use Rattle.msc_tree.specs.declared.reference.InlineForm.TheVariants as inline
use Rattle.msc_meaning.specs.Bodies.{EventNode, Body, level, WovenItems, no_items, item_and, WovenItem, Single, Coregion, Inline, Refer, Bodies, no_bodies, body_and}

-- the item is an exception
abbrev pub is_exception : WovenItem → Bool
is_exception (Inline inline.Exc part operands) = true
is_exception x = false

-- a reference has no events of its own
abbrev mutual
  pub events_within : Body → List EventNode
  events_within (level cover held pairs) = items_within held

  pub items_within : WovenItems → List EventNode
  items_within no_items = []
  items_within (item_and x xs) = item_within x ++ items_within xs

  pub item_within : WovenItem → List EventNode
  item_within (Single n) = n ∷ []
  item_within (Coregion ns) = ns
  item_within (Inline form part operands) = operands_within operands
  item_within (Refer part) = []

  pub operands_within : Bodies → List EventNode
  operands_within no_bodies = []
  operands_within (body_and b bs) = events_within b ++ operands_within bs
