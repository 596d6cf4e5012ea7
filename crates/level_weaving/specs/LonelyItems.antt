-- Serves private contracts alone.
-- Items and operands in which an output or an input has no partner.
use Rattle.std.specs.Prelude.{◌⊎◌}
use Rattle.msc_base.specs.declared.place.Place.{Place}
use Rattle.msc_meaning.specs.Bodies.{WovenItems, no_items, item_and, WovenItem, Bodies, no_bodies, body_and}
use Rattle.msc_meaning.specs.BodyLevels.{item_levels}
use Rattle.msc_meaning.specs.Partners.{LacksPartner, LevelsLackPartner}

abbrev pub ItemLacksPartner : WovenItem → Place → Type 0
ItemLacksPartner x = LevelsLackPartner (item_levels x)

abbrev pub ItemsLackPartner : WovenItems → Place → Type 0
ItemsLackPartner no_items place = ⊥
ItemsLackPartner (item_and x xs) place = ItemLacksPartner x place ⊎ ItemsLackPartner xs place

abbrev pub OneLacksPartner : Bodies → Place → Type 0
OneLacksPartner no_bodies place = ⊥
OneLacksPartner (body_and b bs) place = LacksPartner b place ⊎ OneLacksPartner bs place
