-- Serves private contracts alone.
-- The facts of gates by those of the charts that are named: by the same recursion as the inner events.
use Rattle.std.specs.Prelude.{ℕ, Bool, true, false, List, [], ◌∷◌, Option, None, Some}
use Rattle.std.specs.Str.{bytes_eq}
use Rattle.msc_tree.specs.declared.event.Target.{Target}
use Rattle.msc_tree.specs.declared.event.Target.TheVariants.{Nobody, Env, Instance, Gate}
use Rattle.msc_tree.specs.declared.reference.InlineForm.{InlineForm}
use Rattle.msc_tree.specs.declared.reference.InlineForm.TheVariants as inline
use Rattle.msc_tree.specs.declared.reference.Join.{Join}
use Rattle.msc_tree.specs.declared.reference.JoinEnd.{JoinEnd}
use Rattle.msc_tree.specs.declared.reference.JoinEnd.TheVariants as join_end
use Rattle.msc_tree.specs.Expressions.{Expression, Empty, Chart, Alt, Par, Seq, Opt, Loop, Expressions, none, more}
use Rattle.msc_meaning.specs.Bodies.{EventNode, Body, level, WovenItems, no_items, item_and, WovenItem, Single, Coregion, Inline, Refer, Bodies, no_bodies, body_and}
use Rattle.msc_meaning.specs.Calls.{Call, calls, is_called}
use Rattle.gate_ends.specs.FoundEnds.{is_gate, is_name}
use Rattle.gate_tables.specs.GateFacts.{Facts}
use Rattle.gate_tables.specs.Together.{event_facts, facts_if, facts_unless, in_loop_facts, together}

-- the gate that an event names
abbrev pub gate_named : Target → Option (List ℕ)
gate_named (Env gate) = gate
gate_named Nobody = None
gate_named (Instance far) = None
gate_named (Gate name gate) = None

abbrev pub event_known : EventNode → List ℕ → Option Facts
event_known n g = facts_if (is_gate n.event.target g) (Some (event_facts n))

abbrev pub events_known : List EventNode → List ℕ → Option Facts
events_known [] g = None
events_known (n ∷ ns) g = together true (event_known n g) (events_known ns g)

-- an exception stands in place of what is behind it
abbrev pub goes_on : WovenItem → Bool
goes_on (Single n) = true
goes_on (Coregion ns) = true
goes_on (Inline inline.Alt part operands) = true
goes_on (Inline inline.Opt part operands) = true
goes_on (Inline inline.Par part operands) = true
goes_on (Inline inline.Loop part operands) = true
goes_on (Inline inline.Exc part operands) = false
goes_on (Refer part) = true

abbrev pub is_par : InlineForm → Bool
is_par inline.Alt = false
is_par inline.Opt = false
is_par inline.Par = true
is_par inline.Loop = false
is_par inline.Exc = false

abbrev pub turned_known : InlineForm → Option Facts → Option Facts
turned_known inline.Alt x = x
turned_known inline.Opt x = x
turned_known inline.Par x = x
turned_known inline.Loop x = in_loop_facts x
turned_known inline.Exc x = x

-- of the gates that joins hand on, by what is known of the gates of their reference
abbrev pub joined_known : (List ℕ → Option Facts) → List ℕ → JoinEnd → List ℕ → Option Facts
joined_known of gate (join_end.Env to) g = facts_if (bytes_eq to g) (of gate)
joined_known of gate (join_end.Reference name to) g = None

abbrev pub joins_known : (List ℕ → Option Facts) → List Join → List ℕ → Option Facts
joins_known of [] g = None
joins_known of (j ∷ js) g = together true (joined_known of j.gate j.to g) (joins_known of js g)

-- chart_known: of the gate of the chart of that name
module _ (chart_known : List ℕ → List ℕ → Option Facts) where
  abbrev mutual
    pub expression_known : Expression → List ℕ → Option Facts
    expression_known Empty g = None
    expression_known (Chart name) g = chart_known name g
    expression_known (Alt parts) g = parts_known false parts g
    expression_known (Par parts) g = parts_known true parts g
    expression_known (Seq parts) g = parts_known true parts g
    expression_known (Opt part) g = expression_known part g
    expression_known (Loop lower upper part) g = in_loop_facts (expression_known part g)

    -- of parts that all are done, or of which one is
    pub parts_known : Bool → Expressions → List ℕ → Option Facts
    parts_known all none g = None
    parts_known all (more x xs) g = together all (expression_known x g) (parts_known all xs g)

  abbrev mutual
    pub level_known : Body → List ℕ → Option Facts
    level_known (level cover held pairs) g = items_known (calls held) held g

    pub items_known : List Call → WovenItems → List ℕ → Option Facts
    items_known cs no_items g = None
    items_known cs (item_and x xs) g = together (goes_on x) (item_known cs x g) (items_known cs xs g)

    pub item_known : List Call → WovenItem → List ℕ → Option Facts
    item_known cs (Single n) g = event_known n g
    item_known cs (Coregion ns) g = events_known ns g
    item_known cs (Inline form part operands) g = facts_unless (is_called cs part.name g) (turned_known form (operands_known form operands g))
    item_known cs (Refer part) g = joins_known (expression_known part.expression) part.joins g

    pub operands_known : InlineForm → Bodies → List ℕ → Option Facts
    operands_known form no_bodies g = None
    operands_known form (body_and b bs) g = together (is_par form) (level_known b g) (operands_known form bs g)

  -- of all operands of an inline expression of that form
  abbrev pub inline_known : InlineForm → Bodies → List ℕ → Option Facts
  inline_known form operands g = turned_known form (operands_known form operands g)

  abbrev pub inline_part_known : WovenItem → List ℕ → Option Facts
  inline_part_known (Single n) g = None
  inline_part_known (Coregion ns) g = None
  inline_part_known (Inline form part operands) g = inline_known form operands g
  inline_part_known (Refer part) g = None

  -- of the gate of the reference or inline expression of that name
  abbrev pub item_of_known : WovenItem → List ℕ → List ℕ → Option Facts
  item_of_known (Single n) name g = None
  item_of_known (Coregion ns) name g = None
  item_of_known (Inline form part operands) name g = facts_if (is_name part.name name) (inline_known form operands g)
  item_of_known (Refer part) name g = facts_if (is_name part.name name) (expression_known part.expression g)

  abbrev pub known_of : WovenItems → List ℕ → List ℕ → Option Facts
  known_of no_items name g = None
  known_of (item_and x xs) name g = together true (item_of_known x name g) (known_of xs name g)
