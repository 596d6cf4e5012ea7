-- Where the callers and joins of a chart break the rules on gates (Z.120, clauses 4.4 and 7.3). An event calls the gate that it names as its
-- other end. A join between two gates calls both; one to a gate of the level hands on the gate of its own reference.
use Rattle.std.specs.Prelude.{ℕ, Bool, true, false, not, ◌&&◌, ◌||◌, nat_lt, List, [], ◌∷◌, ◌++◌, Option, None, Some, map, reverse}
use Rattle.std.specs.List.{flat_map, list_any}
use Rattle.std.specs.Str.{bytes_eq}
use Rattle.chart_text.specs.Gathering.{place_if}
use Rattle.msc_base.specs.Lists.{IsAmong}
use Rattle.msc_base.specs.declared.label.Kind.{Kind}
use Rattle.msc_base.specs.declared.label.Kind.TheVariants.{Output, Input, OutputLost, InputFound, Action, TimerStart, TimerStop, Timeout, Create}
use Rattle.msc_base.specs.Places.{is_before}
use Rattle.msc_base.specs.declared.place.Place.{Place}
use Rattle.msc_tree.specs.declared.event.Target.{Target}
use Rattle.msc_tree.specs.declared.event.Target.TheVariants.{Nobody, Env, Instance, Gate}
use Rattle.msc_tree.specs.declared.reference.Join.{Join}
use Rattle.msc_tree.specs.declared.reference.JoinEnd.{JoinEnd}
use Rattle.msc_tree.specs.declared.reference.JoinEnd.TheVariants as join_end
use Rattle.msc_meaning.specs.Bodies.{EventNode, ReferencePart, Body, level, WovenItems, WovenItem, Single, Coregion, Inline, Refer, item_list}
use Rattle.msc_meaning.specs.BodyLevels.{BodyLevel, body_levels}
use Rattle.msc_meaning.specs.InnerEvents.{InnerEvent}
use Rattle.msc_meaning.specs.Tables.{Table, ChartEntry, Woven, Basic, HighLevel}
use Rattle.gate_ends.specs.FoundEnds.{GateEvents, listed, looped, most, chart_gates, expression_inner, inner_of}
use Rattle.gate_tables.specs.GateFacts.{all_inputs, all_outputs, is_among_events, is_elsewhere, has_other_text}
use Rattle.gate_tables.specs.MessageTexts.{text_parts}
use Rattle.gate_rules.specs.declared.faults.GateRule.{GateRule}
use Rattle.gate_rules.specs.declared.faults.GateRule.TheVariants as rule

-- an event that calls a gate, or a join of a reference
pub data Caller : Type 0 where
  by_event : EventNode → List ℕ → List ℕ → Caller
  by_join : ReferencePart → Join → Caller

abbrev pub place_of : Caller → Place
place_of (by_event n name gate) = n.event.place
place_of (by_join part j) = j.place

abbrev pub event_caller : EventNode → Target → List Caller
event_caller n Nobody = []
event_caller n (Env gate) = []
event_caller n (Instance far) = []
event_caller n (Gate name gate) = by_event n name gate ∷ []

abbrev pub events_callers : List EventNode → List Caller
events_callers ns = flat_map (λ (n : EventNode). event_caller n n.event.target) ns

abbrev pub item_callers : WovenItem → List Caller
item_callers (Single n) = event_caller n n.event.target
item_callers (Coregion ns) = events_callers ns
item_callers (Inline form part operands) = []
item_callers (Refer part) = map (by_join part) part.joins

-- the callers of a level
abbrev pub callers : WovenItems → List Caller
callers held = flat_map item_callers (item_list held)

-- a gate of a reference or inline expression of the level, by both names
pub record GateName : Type 0 where
  pub name : List ℕ
  pub gate : List ℕ

abbrev pub is_same_gate : GateName → GateName → Bool
is_same_gate a b = bytes_eq a.name b.name && bytes_eq a.gate b.gate

abbrev pub own_gate : Option (List ℕ) → List ℕ → List GateName
own_gate None gate = []
own_gate (Some name) gate = record { name = name; gate = gate } ∷ []

abbrev pub gates_joined : List GateName → JoinEnd → List GateName
gates_joined own (join_end.Env to) = []
gates_joined own (join_end.Reference name to) = own ++ record { name = name; gate = to } ∷ []

-- the gates that it calls
abbrev pub called : Caller → List GateName
called (by_event n name gate) = record { name = name; gate = gate } ∷ []
called (by_join part j) = gates_joined (own_gate part.name j.gate) j.to

abbrev pub gates_handed : List GateName → JoinEnd → List GateName
gates_handed own (join_end.Env to) = own
gates_handed own (join_end.Reference name to) = []

-- and the one that it hands on
abbrev pub handed : Caller → List GateName
handed (by_event n name gate) = []
handed (by_join part j) = gates_handed (own_gate part.name j.gate) j.to

abbrev pub has_gate : List GateName → GateName → Bool
has_gate xs x = list_any (is_same_gate x) xs

-- ---- rules

-- another that doesn't stand behind it calls or hands on a gate that it calls, or calls one that it hands on
abbrev pub takes_again : Caller → Caller → Bool
takes_again c d = not (is_before (place_of c) (place_of d)) && (list_any (λ x. has_gate (called d) x || has_gate (handed d) x) (called c) || list_any (has_gate (called d)) (handed c))

-- one of these does
abbrev pub is_taken : List Caller → Caller → Bool
is_taken others c = list_any (takes_again c) others

-- of a list of callers, behind others that are turned round: those that an earlier one takes
abbrev pub taken_from : List Caller → List Caller → List Place
taken_from before [] = []
taken_from before (c ∷ cs) = place_if (is_taken before c) (place_of c) ++ taken_from (c ∷ before) cs

-- those that another takes: it is earlier in the list, or in the list turned round
abbrev pub taken_places : List Caller → List Place
taken_places cs = taken_from [] cs ++ taken_from [] (reverse cs)

-- a gate has no inner event
abbrev pub is_empty : GateEvents → Bool
is_empty a = not (is_among_events (listed a))

-- one branch has two of them
abbrev pub is_several : GateEvents → Bool
is_several a = nat_lt 1 (most a)

-- they happen at two instances
abbrev pub splits : List InnerEvent → Bool
splits [] = false
splits (e ∷ es) = is_elsewhere e.node.at (e ∷ es)

abbrev pub is_split : GateEvents → Bool
is_split a = splits (listed a)

-- one stands in a loop
abbrev pub is_looped : GateEvents → Bool
is_looped a = is_among_events (looped a)

-- all come in where an event of that kind goes out, and the other way round
abbrev pub answer : Kind → List InnerEvent → Bool
answer Output es = all_inputs es
answer Input es = all_outputs es
answer OutputLost es = false
answer InputFound es = false
answer Action es = false
answer TimerStart es = false
answer TimerStop es = false
answer Timeout es = false
answer Create es = false

-- one doesn't go the other way than the caller, or has another text
abbrev pub goes_along : EventNode → List InnerEvent → Bool
goes_along n [] = false
goes_along n (e ∷ es) = not (answer n.event.kind (e ∷ es)) || has_other_text (text_parts n.event) (e ∷ es)

-- of two gates that a join ties the inner events of one don't all go out and those of the other in, or they have two texts
abbrev pub clash : List InnerEvent → List InnerEvent → Bool
clash [] fs = false
clash (e ∷ es) [] = false
clash (e ∷ es) (f ∷ fs) =
    not ((all_outputs (e ∷ es) && all_inputs (f ∷ fs)) || (all_inputs (e ∷ es) && all_outputs (f ∷ fs))) || (has_other_text (text_parts e.node.event) (e ∷ es) || has_other_text (text_parts e.node.event) (f ∷ fs))

-- the join of a reference without a name calls a gate
abbrev pub joins_nameless : Option (List ℕ) → JoinEnd → Bool
joins_nameless name (join_end.Env to) = false
joins_nameless None (join_end.Reference name to) = true
joins_nameless (Some own) (join_end.Reference name to) = false

-- the gate of a join has no inner event, or its reference has no name by which it calls
abbrev pub lacks_own : Table → Caller → Bool
lacks_own table (by_event n name gate) = false
lacks_own table (by_join part j) = is_empty (expression_inner (chart_gates table) part.expression j.gate) || joins_nameless part.name j.to

module _ (table : Table) (held : WovenItems) where
  -- the inner events of a gate of the level's reference or inline expression
  abbrev pub inner_at : GateName → GateEvents
  inner_at x = inner_of (chart_gates table) held x.name x.gate

  abbrev pub any_called : (GateEvents → Bool) → Caller → Bool
  any_called holds c = list_any (λ x. holds (inner_at x)) (called c)

  abbrev pub joined_ways : Option (List ℕ) → List ℕ → JoinEnd → Bool
  joined_ways own gate (join_end.Env to) = false
  joined_ways None gate (join_end.Reference name to) = false
  joined_ways (Some own) gate (join_end.Reference name to) = clash (listed (inner_at (record { name = own; gate = gate }))) (listed (inner_at (record { name = name; gate = to })))

  abbrev pub ways_differ : Caller → Bool
  ways_differ (by_event n name gate) = goes_along n (listed (inner_at (record { name = name; gate = gate })))
  ways_differ (by_join part j) = joined_ways part.name j.gate j.to

  abbrev pub breaks : GateRule → Caller → Bool
  breaks rule.NoGate c = any_called is_empty c || lacks_own table c
  breaks rule.GateTwice c = any_called is_several c
  breaks rule.GateWays c = ways_differ c
  breaks rule.GateSplit c = any_called is_split c
  breaks rule.GateOnLoop c = any_called is_looped c

  abbrev pub broken_at : GateRule → List Caller → List Place
  broken_at r cs = flat_map (λ c. place_if (breaks r c) (place_of c)) cs

-- the joins of a gate of a reference that has an earlier join
abbrev pub joined_again : List (List ℕ) → List Join → List Place
joined_again seen [] = []
joined_again seen (j ∷ js) = place_if (list_any (bytes_eq j.gate) seen) j.place ++ joined_again (j.gate ∷ seen) js

abbrev pub item_joined_again : WovenItem → List Place
item_joined_again (Single n) = []
item_joined_again (Coregion ns) = []
item_joined_again (Inline form part operands) = []
item_joined_again (Refer part) = joined_again [] part.joins

abbrev pub items_joined_again : WovenItems → List Place
items_joined_again held = flat_map item_joined_again (item_list held)

-- where a caller uses a gate again
abbrev pub again_by : GateRule → WovenItems → List Place
again_by rule.GateTwice held = taken_places (callers held) ++ items_joined_again held
again_by rule.NoGate held = []
again_by rule.GateWays held = []
again_by rule.GateSplit held = []
again_by rule.GateOnLoop held = []

-- where a level breaks the rule
abbrev pub level_places : Table → GateRule → Body → List Place
level_places table r (level cover held pairs) = broken_at table held r (callers held) ++ again_by r held

abbrev pub levels_places : Table → GateRule → List BodyLevel → List Place
levels_places table r ls = flat_map (λ (l : BodyLevel). level_places table r l.body) ls

abbrev pub content_places : Table → GateRule → Woven → List Place
content_places table r (Basic body) = levels_places table r (body_levels body)
content_places table r (HighLevel drawn) = []

-- where these charts of the table break it
abbrev pub table_places : Table → GateRule → List ChartEntry → List Place
table_places table r cs = flat_map (λ (c : ChartEntry). content_places table r c.content) cs

-- at that place a chart of the table breaks the rule
abbrev pub BreaksGateRule : Table → GateRule → Place → Type 0
BreaksGateRule table r p = IsAmong (table_places table r table) p
