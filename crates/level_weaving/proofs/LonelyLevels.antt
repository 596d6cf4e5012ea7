-- Items and operands in which an event has no partner are those that have a level in which one has none.
use Rattle.std.proofs.Common.{inl, inr, None, Some}
use Rattle.msc_base.specs.declared.place.Place.{Place}
use Rattle.msc_tree.specs.declared.reference.InlineForm.{InlineForm}
use Rattle.msc_meaning.specs.Bodies.{Body, level, WovenItems, no_items, item_and, Bodies, no_bodies, body_and}
use Rattle.msc_meaning.specs.Partners.{IsUnmatched}
use Rattle.msc_meaning.specs.BodyLevels.{BodyLevel, item_levels, items_levels, level_events, levels_from, operands_levels}
use Rattle.msc_meaning.specs.Partners.{LacksPartner, LevelsLackPartner}
use Rattle.msc_meaning.proofs.LevelLaws.{some_either, some_left, some_right}
use Rattle.level_weaving.specs.LonelyItems.{ItemsLackPartner, OneLacksPartner}

module _ (q : Place) where
  abbrev Lonely : BodyLevel → Type 0
  Lonely l = IsUnmatched (level_events l.body) q

  pub items_on : (xs : WovenItems) → ItemsLackPartner xs q → LevelsLackPartner (items_levels xs) q
  items_on no_items h = absurd h
  items_on (item_and x xs) (inl h) = some_left Lonely (item_levels x) (items_levels xs) h
  items_on (item_and x xs) (inr h) = some_right Lonely (item_levels x) (items_levels xs) (items_on xs h)

  pub items_of : (xs : WovenItems) → LevelsLackPartner (items_levels xs) q → ItemsLackPartner xs q
  items_of no_items h = absurd h
  items_of (item_and x xs) h = elim (some_either Lonely (item_levels x) (items_levels xs) h) [ inl l ↦ inl l | inr r ↦ inr (items_of xs r) ]

  operand_on : (f : InlineForm) (b : Body) → LacksPartner b q → LevelsLackPartner (levels_from (Some f) b) q
  operand_on f (level cover held pairs) (inl h) = inl h
  operand_on f (level cover held pairs) (inr h) = inr h

  operand_of : (f : InlineForm) (b : Body) → LevelsLackPartner (levels_from (Some f) b) q → LacksPartner b q
  operand_of f (level cover held pairs) (inl h) = inl h
  operand_of f (level cover held pairs) (inr h) = inr h

  pub operands_on : (f : InlineForm) (bs : Bodies) → OneLacksPartner bs q → LevelsLackPartner (operands_levels f bs) q
  operands_on f no_bodies h = absurd h
  operands_on f (body_and b bs) (inl h) = some_left Lonely (levels_from (Some f) b) (operands_levels f bs) (operand_on f b h)
  operands_on f (body_and b bs) (inr h) = some_right Lonely (levels_from (Some f) b) (operands_levels f bs) (operands_on f bs h)

  pub operands_lacking : (f : InlineForm) (bs : Bodies) → LevelsLackPartner (operands_levels f bs) q → OneLacksPartner bs q
  operands_lacking f no_bodies h = absurd h
  operands_lacking f (body_and b bs) h = elim (some_either Lonely (levels_from (Some f) b) (operands_levels f bs) h) [ inl l ↦ inl (operand_of f b l) | inr r ↦ inr (operands_lacking f bs r) ]
