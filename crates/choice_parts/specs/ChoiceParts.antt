-- What the choices of a chart come to in its expansion, by the text and the tree side by side.
use Rattle.std.specs.Prelude.{List, [], ◌∷◌, ◌++◌}
use Rattle.msc_base.specs.declared.label.Pair.{Pair}
use Rattle.msc_base.specs.declared.place.Place.{Place}
use Rattle.msc_tree.specs.declared.reference.InlineForm.{InlineForm}
use Rattle.msc_tree.specs.declared.reference.InlineForm.TheVariants as inline
use Rattle.msc_meaning.specs.Bodies.{Body, level, WovenItems, no_items, item_and, WovenItem, Single, Coregion, Inline, Refer, Bodies, no_bodies, body_and}
use Rattle.msc_meaning.specs.Refinements.{without_decomposed}
use Rattle.msc_meaning.specs.Tables.{Woven, Basic, HighLevel, Refinement}
use Rattle.expansion_tree.specs.Expansions.{InRow, Aside, OneOf, Exception, Turns, Tied, no_parts, part_and}
use Rattle.expansion_tree.specs.Numbered.{Expansion, Expansions}

-- of a choice the place of its expression, and what its operands come to
pub record ChoiceParts : Type 0 where
  pub place : Place
  pub operands : List Expansion

abbrev pub part_list : Expansions → List Expansion
part_list no_parts = []
part_list (part_and x xs) = x ∷ part_list xs

-- what stands behind an exception: these parts of a row, tied by the pairs of its level. A pair that has an end elsewhere ties nothing
abbrev pub part_behind : Expansions → List Pair → Expansion
part_behind xs ps = Tied (InRow xs) ps

-- ---- expressions and levels

-- the parts of a row, those side by side, and alternatives; none, where it is something else
abbrev pub in_row : Expansion → Expansions
in_row (InRow xs) = xs
in_row x = no_parts

abbrev pub beside : Expansion → Expansions
beside (Aside xs) = xs
beside x = no_parts

abbrev pub alternatives : Expansion → Expansions
alternatives (OneOf xs) = xs
alternatives x = no_parts

-- of the first of these
abbrev pub of_first : (Expansion → Expansions) → Expansions → Expansions
of_first f no_parts = no_parts
of_first f (part_and x xs) = f x

abbrev pub excepted : Expansion → Expansions
excepted (Exception x) = alternatives x
excepted x = no_parts

abbrev pub repeated : Expansion → Expansions
repeated (Turns n lower upper x) = alternatives x
repeated x = no_parts

-- the operands in what an inline expression of the form comes to
abbrev pub operands_in : InlineForm → Expansion → Expansions
operands_in inline.Alt x = alternatives x
operands_in inline.Opt x = of_first alternatives (alternatives x)
operands_in inline.Exc x = excepted x
operands_in inline.Par x = beside x
operands_in inline.Loop x = repeated x

-- the row in what a level comes to, and its pairs
abbrev pub row_in : Expansion → Expansions
row_in (Tied x ps) = in_row x
row_in x = no_parts

abbrev pub pairs_in : Expansion → List Pair
pairs_in (Tied x ps) = ps
pairs_in x = []

-- beside refining charts: the row of what is left
abbrev pub left_row_in : Expansion → Expansions
left_row_in (Tied x ps) = of_first in_row (beside x)
left_row_in x = no_parts

-- ---- choices

abbrev pub own_parts : InlineForm → Place → Expansions → Expansion → List ChoiceParts
own_parts inline.Alt place xs behind = record { place = place; operands = part_list xs } ∷ []
own_parts inline.Opt place xs behind = record { place = place; operands = part_list xs } ∷ []
own_parts inline.Exc place xs behind = record { place = place; operands = part_list xs ++ behind ∷ [] } ∷ []
own_parts inline.Par place xs behind = []
own_parts inline.Loop place xs behind = []

abbrev mutual
  pub level_parts : Body → Expansion → List ChoiceParts
  level_parts (level cover held pairs) x = items_parts held (row_in x) (pairs_in x)

  -- the pairs are those of the level
  pub items_parts : WovenItems → Expansions → List Pair → List ChoiceParts
  items_parts no_items xs ps = []
  items_parts (item_and y ys) no_parts ps = []
  items_parts (item_and y ys) (part_and x xs) ps = item_parts y x xs ps ++ items_parts ys xs ps

  -- of an item that comes to the first, in front of others
  pub item_parts : WovenItem → Expansion → Expansions → List Pair → List ChoiceParts
  item_parts (Single n) x xs ps = []
  item_parts (Coregion ns) x xs ps = []
  item_parts (Inline form part operands) x xs ps = own_parts form part.place (operands_in form x) (part_behind xs ps) ++ operands_parts operands (operands_in form x)
  item_parts (Refer part) x xs ps = []

  pub operands_parts : Bodies → Expansions → List ChoiceParts
  operands_parts no_bodies xs = []
  operands_parts (body_and b bs) no_parts = []
  operands_parts (body_and b bs) (part_and x xs) = level_parts b x ++ operands_parts bs xs

abbrev pub woven_parts : List Refinement → Woven → Expansion → List ChoiceParts
woven_parts [] (Basic body) x = level_parts body x
woven_parts (r ∷ rs) (Basic (level cover held pairs)) x = items_parts (without_decomposed (r ∷ rs) held) (left_row_in x) (pairs_in x)
woven_parts rs (HighLevel drawn) x = []
