-- Where the names of events break a rule: an event is ordered with a name that no event of its level has, or has the name of an earlier one.
use Rattle.std.specs.List.{flat_map, list_any}
use Rattle.std.specs.Prelude.{ℕ, Bool, true, false, ◌||◌, ◌&&◌, List, [], ◌∷◌, Option, Some, None, nat_lt, if◌then◌else◌}
use Rattle.msc_base.specs.Lists.{IsAmong}
use Rattle.msc_base.specs.declared.place.Place.{Place}
use Rattle.msc_meaning.specs.Bodies.{EventNode, Body}
use Rattle.msc_meaning.specs.Ties.{is_labelled, labelled}
use Rattle.msc_meaning.specs.BodyLevels.{BodyLevel, SomeLevel, body_levels, level_events}

-- an event is ordered with names that events of its level have; on a level no two events have one name
pub data EventNameRule : Type 0 where
  Unknown : EventNameRule
  Twice : EventNameRule

abbrev pub is_none : List ℕ → Bool
is_none [] = true
is_none (n ∷ ns) = false

-- one of the names has no event; named: the numbers of the events of a name
abbrev pub names_none : (List ℕ → List ℕ) → List (List ℕ) → Bool
names_none named names = list_any (λ name. is_none (named name)) names

-- an event of that name has a lower number; events are numbered in the order of the text
abbrev pub stands_before : List EventNode → List ℕ → ℕ → Bool
stands_before ns name number = list_any (λ (n : EventNode). is_labelled n.event.order.event_name name && nat_lt n.number number) ns

abbrev pub is_named_before : List EventNode → Option (List ℕ) → ℕ → Bool
is_named_before ns None number = false
is_named_before ns (Some name) number = stands_before ns name number

-- the event breaks the rule, among all events of its level
abbrev pub breaks : EventNameRule → List EventNode → EventNode → Bool
breaks Unknown all n = names_none (labelled all) n.event.order.earlier_than || names_none (labelled all) n.event.order.later_than
breaks Twice all n = is_named_before all n.event.order.event_name n.number

-- the places of those of these events that pass a test
abbrev pub places_where : (EventNode → Bool) → List EventNode → List Place
places_where test ns = flat_map (λ n. (if test n then n.event.place ∷ [] else [])) ns

-- the places of the events of a level that break the rule
abbrev pub level_faults : EventNameRule → BodyLevel → List Place
level_faults rule l = places_where (breaks rule (level_events l.body)) (level_events l.body)

-- an event of one of the levels, at that place, breaks the rule
abbrev pub LevelsBreakNameRule : EventNameRule → List BodyLevel → Place → Type 0
LevelsBreakNameRule rule levels place = SomeLevel (λ l. IsAmong (level_faults rule l) place) levels

abbrev pub BreaksNameRule : EventNameRule → Body → Place → Type 0
BreaksNameRule rule b = LevelsBreakNameRule rule (body_levels b)
