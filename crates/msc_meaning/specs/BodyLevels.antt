-- The levels of a woven body: its own, and those of its operands at any depth, in the order of the woven list.
use Rattle.std.specs.Prelude.{◌⊎◌, List, [], ◌∷◌, ◌++◌, Option, None, Some}
use Rattle.msc_tree.specs.declared.reference.InlineForm.{InlineForm}
use Rattle.msc_meaning.specs.Bodies.{EventNode, Body, level, WovenItems, no_items, item_and, WovenItem, Single, Coregion, Inline, Refer, Bodies, no_bodies, body_and, events}

-- a level, and the form of the inline expression whose operand it is; none, where it is the body itself
pub record BodyLevel : Type 0 where
  pub operand_of : Option InlineForm
  pub body : Body

abbrev mutual
  -- the level itself, and those inside it
  pub levels_from : Option InlineForm → Body → List BodyLevel
  levels_from form (level cover held pairs) = record { operand_of = form; body = level cover held pairs } ∷ items_levels held

  pub items_levels : WovenItems → List BodyLevel
  items_levels no_items = []
  items_levels (item_and x xs) = item_levels x ++ items_levels xs

  pub item_levels : WovenItem → List BodyLevel
  item_levels (Single n) = []
  item_levels (Coregion ns) = []
  item_levels (Inline form part operands) = operands_levels form operands
  item_levels (Refer part) = []

  pub operands_levels : InlineForm → Bodies → List BodyLevel
  operands_levels form no_bodies = []
  operands_levels form (body_and b bs) = levels_from (Some form) b ++ operands_levels form bs

abbrev pub body_levels : Body → List BodyLevel
body_levels = levels_from None

-- the events of a level, without those of its operands
abbrev pub level_events : Body → List EventNode
level_events (level cover held pairs) = events held

-- one of the levels is such
abbrev pub SomeLevel : (BodyLevel → Type 0) → List BodyLevel → Type 0
SomeLevel P [] = ⊥
SomeLevel P (l ∷ ls) = P l ⊎ SomeLevel P ls

-- each of them is
abbrev pub EachLevel : (BodyLevel → Type 0) → List BodyLevel → Type 0
EachLevel P [] = Unit {0}
EachLevel P (l ∷ ls) = P l × EachLevel P ls
