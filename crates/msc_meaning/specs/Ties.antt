-- What ties the events of a level, and what becomes of their tags above it.
use Rattle.std.specs.Prelude.{ℕ, Bool, true, false, List, [], ◌∷◌, ◌++◌, Option, Some, None, if◌then◌else◌, map}
use Rattle.std.specs.List.{flat_map}
use Rattle.std.specs.Str.{bytes_eq}
use Rattle.msc_base.specs.declared.label.Kind.{Kind}
use Rattle.msc_base.specs.declared.label.Kind.TheVariants.{Input}
use Rattle.msc_base.specs.declared.label.Pair.{Pair}
use Rattle.msc_unfolding.specs.Unfoldings.{Tag, Own, Via, On, Tie}
use Rattle.msc_tree.specs.declared.reference.Join.{Join}
use Rattle.msc_tree.specs.declared.reference.JoinEnd.{JoinEnd}
use Rattle.msc_tree.specs.declared.reference.JoinEnd.TheVariants as join_end
use Rattle.msc_meaning.specs.Bodies.{EventNode, WovenItems, WovenItem, Single, Coregion, Inline, Refer, events, item_list}
use Rattle.msc_meaning.specs.Calls.{Caller, an_event, a_gate, Call, is_called, passed_to}
use Rattle.msc_meaning.specs.InnerEvents.{GateEnd}
use Rattle.msc_meaning.specs.FarEnds.{end_at}

-- ---- pairs of a level

-- events of the level, the first of each pair before the second
abbrev pub own_ties : List Pair → List (Tag × Tag)
own_ties ps = map (λ p. (Own p.first, Own p.second)) ps

abbrev pub is_labelled : Option (List ℕ) → List ℕ → Bool
is_labelled None name = false
is_labelled (Some label) name = bytes_eq label name

-- the numbers of the events with that label
abbrev pub labelled : List EventNode → List ℕ → List ℕ
labelled [] name = []
labelled (n ∷ ns) name = if is_labelled n.event.order.event_name name then n.number ∷ labelled ns name else labelled ns name

abbrev pub each_after : ℕ → List ℕ → List Pair
each_after x es = map (λ e. record { first = x; second = e }) es

abbrev pub each_before : ℕ → List ℕ → List Pair
each_before x es = map (λ e. record { first = e; second = x }) es

-- the event x comes before the events of these names; named: the numbers of the events of a name
abbrev pub before_pairs : (List ℕ → List ℕ) → ℕ → List (List ℕ) → List Pair
before_pairs named x names = flat_map (λ name. each_after x (named name)) names

-- the event x comes after them
abbrev pub after_pairs : (List ℕ → List ℕ) → ℕ → List (List ℕ) → List Pair
after_pairs named x names = flat_map (λ name. each_before x (named name)) names

-- the general ordering of these events
abbrev pub order_pairs : (List ℕ → List ℕ) → List EventNode → List Pair
order_pairs named [] = []
order_pairs named (n ∷ ns) = before_pairs named n.number n.event.order.earlier_than ++ (after_pairs named n.number n.event.order.later_than ++ order_pairs named ns)

-- what comes before what on a level: an output before its input, and the general ordering
abbrev pub level_pairs : WovenItems → List Pair → List Pair
level_pairs held pairs = pairs ++ order_pairs (labelled (events held)) (events held)

-- events of that kind before those of the other end, or behind them where they are inputs
abbrev pub in_order : Kind → Tag → Tag → Tag × Tag
in_order Input a b = (b, a)
in_order _ a b = (a, b)

-- an event that calls a gate, and the inner events of the gate
abbrev pub event_tie : Call → Caller → List (Tag × Tag)
event_tie c (an_event n) = in_order n.event.kind (Own n.number) (On c.name c.gate) ∷ []
event_tie c (a_gate name gate) = []

abbrev pub event_ties : List Call → List (Tag × Tag)
event_ties cs = flat_map (λ c. event_tie c c.by) cs

abbrev pub tie_by : Option GateEnd → List ℕ → List ℕ → List ℕ → List ℕ → List (Tag × Tag)
tie_by None own g name h = []
tie_by (Some e) own g name h = in_order e.kind (On own g) (On name h) ∷ []

abbrev pub join_tie : List GateEnd → List ℕ → List ℕ → JoinEnd → List (Tag × Tag)
join_tie ends own g (join_end.Env h) = []
join_tie ends own g (join_end.Reference name h) = tie_by (end_at ends own g) own g name h

-- the inner events of two gates that a join of the reference ties
abbrev pub joins_ties : List GateEnd → Option (List ℕ) → List Join → List (Tag × Tag)
joins_ties ends None js = []
joins_ties ends (Some own) js = flat_map (λ j. join_tie ends own j.gate j.to) js

abbrev pub item_joins_ties : List GateEnd → WovenItem → List (Tag × Tag)
item_joins_ties ends (Single n) = []
item_joins_ties ends (Coregion ns) = []
item_joins_ties ends (Inline form part operands) = []
item_joins_ties ends (Refer part) = joins_ties ends part.name part.joins

abbrev pub items_joins_ties : List GateEnd → WovenItems → List (Tag × Tag)
items_joins_ties ends held = flat_map (item_joins_ties ends) (item_list held)

-- what ties the events of a level: its messages, its general ordering, its callers, and its joins
abbrev pub ties : WovenItems → List Pair → List Call → List GateEnd → List (Tag × Tag)
ties held pairs cs ends = own_ties (level_pairs held pairs) ++ (event_ties cs ++ items_joins_ties ends held)

-- ---- tags, on their way up

abbrev pub called_tag : Bool → Option (List ℕ) → List ℕ → List Tag → List Tag
called_tag true (Some name) g others = On name g ∷ []
called_tag true None g others = others
called_tag false name g others = others

-- above an inline expression a gate's tag becomes one of its own where that gate has a caller, and else stays
abbrev pub past_inline : List Call → Option (List ℕ) → Tag → List Tag
past_inline cs name (Own n) = []
past_inline cs name (On y g) = []
past_inline cs name (Via g) = called_tag (is_called cs name g) name g (Via g ∷ [])

abbrev pub via_list : Option (List ℕ) → List Tag
via_list None = []
via_list (Some h) = Via h ∷ []

-- above a reference it becomes one of its own where that gate has a caller, the level's where a join says so, and else goes
abbrev pub past_reference : List Call → Option (List ℕ) → List Join → Tag → List Tag
past_reference cs name joins (Own n) = []
past_reference cs name joins (On y g) = []
past_reference cs name joins (Via g) = called_tag (is_called cs name g) name g (via_list (passed_to joins g))

abbrev pub past_node : Tag → List Tag
past_node a = []

-- a tie that only changes tags
abbrev pub passing : (Tag → List Tag) → Tie
passing past = record { pairs = []; past = past }
