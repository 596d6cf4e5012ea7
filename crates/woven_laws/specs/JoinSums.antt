-- What the joins of a body's references add together, at any depth.
use Rattle.std.specs.Prelude.{◌+◌, ℕ}
use Rattle.msc_meaning.specs.Bodies.{ReferencePart, Body, level, WovenItems, no_items, item_and, WovenItem, Single, Coregion, Inline, Refer, Bodies, no_bodies, body_and}

-- product: what those of a reference of a level add
module _ (product : WovenItems → ReferencePart → ℕ) where
  abbrev mutual
    pub level_joins : Body → ℕ
    level_joins (level cover held pairs) = items_joins held held

    -- some of the items of a level, which is the first
    pub items_joins : WovenItems → WovenItems → ℕ
    items_joins whole no_items = 0
    items_joins whole (item_and x xs) = item_joins whole x + items_joins whole xs

    pub item_joins : WovenItems → WovenItem → ℕ
    item_joins whole (Single n) = 0
    item_joins whole (Coregion ns) = 0
    item_joins whole (Inline form part operands) = operands_joins operands
    item_joins whole (Refer part) = product whole part

    pub operands_joins : Bodies → ℕ
    operands_joins no_bodies = 0
    operands_joins (body_and b bs) = level_joins b + operands_joins bs
