-- The inner events of each gate, through operands, references and joins, and through the charts of a table as deep as references stand in
-- each other; and by them the ends of the called gates of a level.
use Rattle.std.specs.Prelude.{ℕ, zero, suc, ◌+◌, max, Bool, true, false, List, [], ◌∷◌, ◌++◌, Option, None, Some, length}
use Rattle.std.specs.List.{flat_map}
use Rattle.std.specs.Str.{bytes_eq}
use Rattle.msc_base.specs.declared.limits.TheConstants.Limits.{EXPANDED_NESTING}
use Rattle.msc_tree.specs.declared.event.Target.{Target}
use Rattle.msc_tree.specs.declared.event.Target.TheVariants.{Nobody, Env, Instance, Gate}
use Rattle.msc_tree.specs.declared.reference.InlineForm.{InlineForm}
use Rattle.msc_tree.specs.declared.reference.InlineForm.TheVariants as inline
use Rattle.msc_tree.specs.declared.reference.Join.{Join}
use Rattle.msc_tree.specs.declared.reference.JoinEnd.{JoinEnd}
use Rattle.msc_tree.specs.declared.reference.JoinEnd.TheVariants as join_end
use Rattle.msc_tree.specs.Expressions.{Expression, Empty, Chart, Alt, Par, Seq, Opt, Loop, Expressions, none, more}
use Rattle.msc_meaning.specs.Bodies.{EventNode, Body, level, WovenItems, no_items, item_and, WovenItem, Single, Coregion, Inline, Refer, Bodies, no_bodies, body_and}
use Rattle.msc_meaning.specs.Calls.{Call, calls, is_called}
use Rattle.msc_meaning.specs.InnerEvents.{charts_in, InnerEvent, here, in_chart, GateEnd}
use Rattle.msc_meaning.specs.MeaningLaws.{end_by}
use Rattle.msc_meaning.specs.Tables.{Table, body_at}

-- ---- the charts that are named

abbrev mutual
  pub level_names : Body → List (List ℕ)
  level_names (level cover held pairs) = items_names held

  pub items_names : WovenItems → List (List ℕ)
  items_names no_items = []
  items_names (item_and x xs) = item_names x ++ items_names xs

  pub item_names : WovenItem → List (List ℕ)
  item_names (Single n) = []
  item_names (Coregion ns) = []
  item_names (Inline form part operands) = operands_names operands
  item_names (Refer part) = charts_in part.expression

  pub operands_names : Bodies → List (List ℕ)
  operands_names no_bodies = []
  operands_names (body_and b bs) = level_names b ++ operands_names bs

-- of each of them
abbrev pub AreAll : (List ℕ → Type 0) → List (List ℕ) → Type 0
AreAll P [] = Unit {0}
AreAll P (n ∷ ns) = P n × AreAll P ns

abbrev pub body_names : Option Body → List (List ℕ)
body_names None = []
body_names (Some b) = level_names b

-- references stand in each other less than so deep, from the chart of that name on
abbrev pub GoesTo : Table → ℕ → List ℕ → Type 0
GoesTo table zero name = ⊥
GoesTo table (suc k) name = AreAll (GoesTo table k) (body_names (body_at table name))

-- ---- inner events, by branches

pub data GateEvents : Type 0 where
  no_event : GateEvents
  an_event : InnerEvent → GateEvents
  -- one branch has both
  both : GateEvents → GateEvents → GateEvents
  -- a branch has the one or the other
  either : GateEvents → GateEvents → GateEvents
  -- they stand in a loop
  in_loop : GateEvents → GateEvents

-- all of them, in the order of the text
abbrev pub listed : GateEvents → List InnerEvent
listed no_event = []
listed (an_event e) = e ∷ []
listed (both a b) = listed a ++ listed b
listed (either a b) = listed a ++ listed b
listed (in_loop a) = listed a

-- those that stand in loops
abbrev pub looped : GateEvents → List InnerEvent
looped no_event = []
looped (an_event e) = []
looped (both a b) = looped a ++ looped b
looped (either a b) = looped a ++ looped b
looped (in_loop a) = listed a

-- how many one branch has at most
abbrev pub most : GateEvents → ℕ
most no_event = 0
most (an_event e) = 1
most (both a b) = most a + most b
most (either a b) = max (most a) (most b)
most (in_loop a) = most a

-- how many there are
abbrev pub event_count : GateEvents → ℕ
event_count a = length (listed a)

-- seen from another chart
abbrev pub seen_in : List ℕ → GateEvents → GateEvents
seen_in name no_event = no_event
seen_in name (an_event e) = an_event (in_chart name e)
seen_in name (both a b) = both (seen_in name a) (seen_in name b)
seen_in name (either a b) = either (seen_in name a) (seen_in name b)
seen_in name (in_loop a) = in_loop (seen_in name a)

-- ---- the inner events of a gate

abbrev pub is_gate : Target → List ℕ → Bool
is_gate (Env (Some h)) g = bytes_eq h g
is_gate (Env None) g = false
is_gate Nobody g = false
is_gate (Instance far) g = false
is_gate (Gate name gate) g = false

abbrev pub is_name : Option (List ℕ) → List ℕ → Bool
is_name None name = false
is_name (Some own) name = bytes_eq own name

abbrev pub these_if : Bool → GateEvents → GateEvents
these_if true a = a
these_if false a = no_event

abbrev pub unless : Bool → GateEvents → GateEvents
unless true a = no_event
unless false a = a

abbrev pub event_inner : EventNode → List ℕ → GateEvents
event_inner n g = these_if (is_gate n.event.target g) (an_event (here n))

abbrev pub events_inner : List EventNode → List ℕ → GateEvents
events_inner [] g = no_event
events_inner (n ∷ ns) g = both (event_inner n g) (events_inner ns g)

-- an exception stands in place of what is behind it
abbrev pub beside : WovenItem → GateEvents → GateEvents → GateEvents
beside (Inline inline.Exc part operands) a b = either a b
beside x a b = both a b

-- the operands of an inline expression of that form
abbrev pub operand_beside : InlineForm → GateEvents → GateEvents → GateEvents
operand_beside inline.Par a b = both a b
operand_beside form a b = either a b

abbrev pub turned : InlineForm → GateEvents → GateEvents
turned inline.Loop a = in_loop a
turned form a = a

-- chart_inner: of the gate of the chart of that name
module _ (chart_inner : List ℕ → List ℕ → GateEvents) where
  abbrev mutual
    pub expression_inner : Expression → List ℕ → GateEvents
    expression_inner Empty g = no_event
    expression_inner (Chart name) g = chart_inner name g
    expression_inner (Alt parts) g = choice_inner parts g
    expression_inner (Par parts) g = parts_inner parts g
    expression_inner (Seq parts) g = parts_inner parts g
    expression_inner (Opt part) g = expression_inner part g
    expression_inner (Loop lower upper part) g = in_loop (expression_inner part g)

    pub choice_inner : Expressions → List ℕ → GateEvents
    choice_inner none g = no_event
    choice_inner (more x xs) g = either (expression_inner x g) (choice_inner xs g)

    pub parts_inner : Expressions → List ℕ → GateEvents
    parts_inner none g = no_event
    parts_inner (more x xs) g = both (expression_inner x g) (parts_inner xs g)

  abbrev pub joined_inner : Expression → List ℕ → JoinEnd → List ℕ → GateEvents
  joined_inner e gate (join_end.Env to) g = these_if (bytes_eq to g) (expression_inner e gate)
  joined_inner e gate (join_end.Reference name to) g = no_event

  abbrev pub joins_inner : Expression → List Join → List ℕ → GateEvents
  joins_inner e [] g = no_event
  joins_inner e (j ∷ js) g = both (joined_inner e j.gate j.to g) (joins_inner e js g)

  abbrev mutual
    pub level_inner : Body → List ℕ → GateEvents
    level_inner (level cover held pairs) g = items_inner (calls held) held g

    pub items_inner : List Call → WovenItems → List ℕ → GateEvents
    items_inner cs no_items g = no_event
    items_inner cs (item_and x xs) g = beside x (item_inner cs x g) (items_inner cs xs g)

    pub item_inner : List Call → WovenItem → List ℕ → GateEvents
    item_inner cs (Single n) g = event_inner n g
    item_inner cs (Coregion ns) g = events_inner ns g
    item_inner cs (Inline form part operands) g = unless (is_called cs part.name g) (turned form (operands_inner form operands g))
    item_inner cs (Refer part) g = joins_inner part.expression part.joins g

    pub operands_inner : InlineForm → Bodies → List ℕ → GateEvents
    operands_inner form no_bodies g = no_event
    operands_inner form (body_and b bs) g = operand_beside form (level_inner b g) (operands_inner form bs g)

  -- of the operands of an inline expression of that form
  abbrev pub inline_inner : InlineForm → Bodies → List ℕ → GateEvents
  inline_inner form operands g = turned form (operands_inner form operands g)

  -- of the gate of the level's reference or inline expression of that name
  abbrev pub inner_of_item : WovenItem → List ℕ → List ℕ → GateEvents
  inner_of_item (Single n) name g = no_event
  inner_of_item (Coregion ns) name g = no_event
  inner_of_item (Inline form part operands) name g = these_if (is_name part.name name) (inline_inner form operands g)
  inner_of_item (Refer part) name g = these_if (is_name part.name name) (expression_inner part.expression g)

  abbrev pub inner_of : WovenItems → List ℕ → List ℕ → GateEvents
  inner_of no_items name g = no_event
  inner_of (item_and x xs) name g = both (inner_of_item x name g) (inner_of xs name g)

  abbrev pub body_inner : List ℕ → Option Body → List ℕ → GateEvents
  body_inner name None g = no_event
  body_inner name (Some b) g = seen_in name (level_inner b g)

-- of the gate of the chart of that name, seen from another chart
abbrev pub inner_to : Table → ℕ → List ℕ → List ℕ → GateEvents
inner_to table zero name g = no_event
inner_to table (suc k) name g = body_inner (inner_to table k) name (body_at table name) g

-- ---- ends

-- by the first inner event
abbrev pub first_end : Call → List InnerEvent → List GateEnd
first_end c [] = []
first_end c (e ∷ es) = end_by c.name c.gate e ∷ []

abbrev pub called_ends : (List ℕ → List ℕ → GateEvents) → WovenItems → List Call → List GateEnd
called_ends chart_inner held cs = flat_map (λ c. first_end c (listed (inner_of chart_inner held c.name c.gate))) cs

-- the ends of the called gates of a level
abbrev pub ends_to : Table → ℕ → WovenItems → List GateEnd
ends_to table k held = called_ends (inner_to table k) held (calls held)

-- where references stand in each other no deeper than the limit
abbrev pub chart_gates : Table → List ℕ → List ℕ → GateEvents
chart_gates table = inner_to table EXPANDED_NESTING

abbrev pub table_ends : Table → WovenItems → List GateEnd
table_ends table = ends_to table EXPANDED_NESTING
