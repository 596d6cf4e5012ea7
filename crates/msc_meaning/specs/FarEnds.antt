-- Far ends: what goes down from a level to its items and their charts.
use Rattle.std.specs.Prelude.{ℕ, List, [], ◌∷◌, Option, Some, None, ◌&&◌, option_map, option_and_then}
use Rattle.std.specs.List.{find}
use Rattle.std.specs.Option.{option_or, unwrap_or}
use Rattle.std.specs.Str.{bytes_eq}
use Rattle.msc_base.specs.declared.label.Far.{Far}
use Rattle.msc_base.specs.declared.label.Far.TheVariants as far
use Rattle.msc_base.specs.declared.label.Kind.{Kind}
use Rattle.msc_base.specs.declared.label.Kind.TheVariants.{Create}
use Rattle.msc_unfolding.specs.Unfoldings.{Tag, Own, Via, Happening}
use Rattle.msc_tree.specs.declared.event.Target.{Target}
use Rattle.msc_tree.specs.declared.event.Target.TheVariants.{Env, Instance, Gate}
use Rattle.msc_tree.specs.declared.reference.Join.{Join}
use Rattle.msc_meaning.specs.Bodies.{EventNode}
use Rattle.msc_meaning.specs.EventLabels.{written_label}
use Rattle.msc_tree.specs.Labels.{far_of}
use Rattle.msc_meaning.specs.Calls.{Caller, an_event, a_gate, Call, is_call_of, passed_to}
use Rattle.msc_meaning.specs.InnerEvents.{GateEnd}

-- the instance that each gate of a level leads to, where a caller further out is known
abbrev pub GateMap : Type 0
GateMap = List ℕ → Option (List ℕ)

abbrev pub no_gates : GateMap
no_gates g = None

-- what a level is given from around it: where its gates lead to, and the far ends that decomposition gives to events, by their numbers
pub record Around : Type 0 where
  pub gates : GateMap
  pub far : ℕ → Option Far

abbrev pub no_far : ℕ → Option Far
no_far n = None

-- what a level says of the gates of its references and inline expressions
pub record Gates : Type 0 where
  pub calls : List Call
  pub ends : List GateEnd

-- ---- callers

-- the end of the called gate
abbrev pub end_at : List GateEnd → List ℕ → List ℕ → Option GateEnd
end_at ends name gate = find (λ e. bytes_eq e.name name && bytes_eq e.gate gate) ends

abbrev pub instance_at : Option GateEnd → Option (List ℕ)
instance_at end = option_map (λ e. e.at) end

-- the caller's instance: that of the event, or that of the inner events of the other gate
abbrev pub caller_at : List GateEnd → Caller → Option (List ℕ)
caller_at ends (an_event n) = Some n.at
caller_at ends (a_gate None gate) = None
caller_at ends (a_gate (Some name) gate) = instance_at (end_at ends name gate)

abbrev pub called_from : List GateEnd → List Call → List ℕ → List ℕ → Option (List ℕ)
called_from ends cs name gate = option_and_then (λ c. caller_at ends c.by) (find (is_call_of name gate) cs)

-- the instance of the gate's caller, where it has one
abbrev pub caller_of : Gates → Option (List ℕ) → List ℕ → Option (List ℕ)
caller_of a None gate = None
caller_of a (Some name) gate = called_from a.ends a.calls name gate

-- ---- maps of gates, on their way down

-- in an inline expression a gate with a caller leads to the caller's instance, and any other where it leads outside
abbrev pub gates_inside : Gates → Option (List ℕ) → GateMap → GateMap
gates_inside a name outside g = option_or (caller_of a name g) (outside g)

abbrev pub through : GateMap → Option (List ℕ) → Option (List ℕ)
through outside h = option_and_then outside h

-- in a reference's charts a gate with a caller leads to the caller's instance, one that is a gate of the level where that one leads,
-- and any other nowhere
abbrev pub gates_referred : Gates → Option (List ℕ) → List Join → GateMap → GateMap
gates_referred a name joins outside g = option_or (caller_of a name g) (through outside (passed_to joins g))

abbrev pub inside : Gates → Option (List ℕ) → Around → Around
inside a name around = record { gates = gates_inside a name around.gates; far = around.far }

-- ---- the event of an unfolding

abbrev pub instance_or_env : Option (List ℕ) → Far
instance_or_env None = far.Env
instance_or_env (Some i) = far.Instance i

-- the far end that was written: of a gate of the level the one that it leads to, of a gate of a reference or an inline expression the
-- instance of its inner events
abbrev pub written_far : List GateEnd → GateMap → Target → Far
written_far ends gates (Env (Some g)) = instance_or_env (gates g)
written_far ends gates (Gate name gate) = instance_or_env (instance_at (end_at ends name gate))
written_far ends gates target = far_of target

abbrev pub far_end : List GateEnd → Around → EventNode → Far
far_end ends around n = unwrap_or (around.far n.number) (written_far ends around.gates n.event.target)

-- the second instance of a creation is the child
abbrev pub child_by : Kind → Target → Option (List ℕ)
child_by Create (Instance k) = Some k
child_by _ _ = None

-- the gate of the level that an event names
abbrev pub gate_tags : Target → List Tag
gate_tags (Env (Some g)) = Via g ∷ []
gate_tags _ = []

-- its label with its far end, and its tags: its number, and its gate
abbrev pub happening : List GateEnd → Around → EventNode → Happening
happening ends around n = record {
  label = record (written_label n) { far = far_end ends around n };
  also = child_by n.event.kind n.event.target;
  tags = Own n.number ∷ gate_tags n.event.target;
}
