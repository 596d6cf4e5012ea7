-- The choices of a basic chart: the expressions `alt`, `opt` and `exc` of its own text, at any depth, with what each of them is a choice
-- between.
use Rattle.std.specs.Prelude.{List, [], ◌∷◌, ◌++◌}
use Rattle.msc_base.specs.declared.label.Pair.{Pair}
use Rattle.msc_base.specs.declared.place.Place.{Place}
use Rattle.msc_tree.specs.declared.reference.InlineForm.{InlineForm}
use Rattle.msc_tree.specs.declared.reference.InlineForm.TheVariants as inline
use Rattle.msc_meaning.specs.Bodies.{InlinePart, Body, level, WovenItems, no_items, item_and, WovenItem, Single, Coregion, Inline, Refer, Bodies, no_bodies, body_and}
use Rattle.msc_meaning.specs.Refinements.{without_decomposed}
use Rattle.msc_meaning.specs.Tables.{ChartEntry, Woven, Basic, HighLevel, Refinement, refinements}

-- what may be taken: items of a level, all of them or those that stand behind an exception, with all items and the message pairs of the level
pub record Operand : Type 0 where
  pub held : WovenItems
  pub pairs : List Pair
  pub taken : WovenItems

-- a level as a whole
abbrev pub whole : Body → Operand
whole (level cover held pairs) = record { held = held; pairs = pairs; taken = held }

abbrev pub operands_of : Bodies → List Operand
operands_of no_bodies = []
operands_of (body_and b bs) = whole b ∷ operands_of bs

-- the place of the expression, and its operands
pub record Choice : Type 0 where
  pub place : Place
  pub operands : List Operand

-- what an expression itself is: of an exception what stands behind it is an operand too
abbrev pub own_choice : InlineForm → InlinePart → Bodies → Operand → List Choice
own_choice inline.Alt part operands behind = record { place = part.place; operands = operands_of operands } ∷ []
own_choice inline.Opt part operands behind = record { place = part.place; operands = operands_of operands } ∷ []
own_choice inline.Exc part operands behind = record { place = part.place; operands = operands_of operands ++ behind ∷ [] } ∷ []
own_choice inline.Par part operands behind = []
own_choice inline.Loop part operands behind = []

abbrev mutual
  -- those of a level: of each expression its own, and then those of its operands
  pub level_choices : Body → List Choice
  level_choices (level cover held pairs) = items_choices held pairs held

  -- of items of a level that has those items and those pairs
  pub items_choices : WovenItems → List Pair → WovenItems → List Choice
  items_choices held pairs no_items = []
  items_choices held pairs (item_and x xs) = item_choices held pairs x xs ++ items_choices held pairs xs

  -- of an item in front of others
  pub item_choices : WovenItems → List Pair → WovenItem → WovenItems → List Choice
  item_choices held pairs (Single n) behind = []
  item_choices held pairs (Coregion ns) behind = []
  item_choices held pairs (Inline form part operands) behind = own_choice form part operands (record { held = held; pairs = pairs; taken = behind }) ++ operands_choices operands
  item_choices held pairs (Refer part) behind = []

  pub operands_choices : Bodies → List Choice
  operands_choices no_bodies = []
  operands_choices (body_and b bs) = level_choices b ++ operands_choices bs

-- those of a chart; beside refining charts the events of decomposed instances are no items of it. A graph has none
abbrev pub woven_choices : List Refinement → Woven → List Choice
woven_choices [] (Basic body) = level_choices body
woven_choices (r ∷ rs) (Basic (level cover held pairs)) = items_choices held pairs (without_decomposed (r ∷ rs) held)
woven_choices rs (HighLevel drawn) = []

abbrev pub choices_of : ChartEntry → List Choice
choices_of chart = woven_choices (refinements chart.decls) chart.content
