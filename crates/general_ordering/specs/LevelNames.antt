-- Serves private contracts alone.
-- The names of a level, with the lowest number of the events of each, and what tests by them say.
use Rattle.std.specs.Prelude.{◌≡◌, ℕ, Bool, false, ◌||◌, List, [], ◌∷◌, Option, Some, None, map, min, nat_lt}
use Rattle.msc_meaning.specs.Bodies.{EventNode}
use Rattle.general_ordering.specs.EventNames.{names_none}
use Rattle.general_ordering.specs.NamedEvents.{IsEven, group_of}
use Rattle.general_ordering.specs.declared.level_names.LevelNames.{LevelNames}

abbrev pub lower : Option ℕ → ℕ → ℕ
lower None number = number
lower (Some lowest) number = min lowest number

-- the lowest of the number so far and these
abbrev pub lowest_from : Option ℕ → List ℕ → Option ℕ
lowest_from so_far [] = so_far
lowest_from so_far (n ∷ ns) = lowest_from (Some (lower so_far n)) ns

-- there is a group for each name, and the lowest number of each group
pub record IsWhole (t : LevelNames) : Type 0 where
  pub even : IsEven t.named
  pub lowest : t.lowest.items ≡ map (lowest_from None) t.named.groups.items

abbrev pub is_lower : Option ℕ → ℕ → Bool
is_lower None number = false
is_lower (Some lowest) number = nat_lt lowest number

-- an event of the name has a lower number
abbrev pub has_before : (List ℕ → List ℕ) → Option (List ℕ) → ℕ → Bool
has_before named None number = false
has_before named (Some name) number = is_lower (lowest_from None (named name)) number

-- the event is ordered with a name that no event of the level has
abbrev pub orders_unknown : LevelNames → EventNode → Bool
orders_unknown t n = names_none (group_of t.named) n.event.order.earlier_than || names_none (group_of t.named) n.event.order.later_than

-- the event has the name of an earlier one
abbrev pub is_named_twice : LevelNames → EventNode → Bool
is_named_twice t n = has_before (group_of t.named) n.event.order.event_name n.number
