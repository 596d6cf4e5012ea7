-- The events that a decomposed instance may have: outputs and inputs, to and from instances and the environment, without a name, an order or
-- a gate.
use Rattle.std.specs.Prelude.{Bool, true, false, ◌&&◌, List, [], ◌∷◌, Option, None, Some, ℕ}
use Rattle.std.specs.Option.{is_none}
use Rattle.msc_base.specs.declared.label.Kind.{Kind}
use Rattle.msc_base.specs.declared.label.Kind.TheVariants.{Output, Input}
use Rattle.msc_tree.specs.declared.event.RawEvent.{RawEvent}
use Rattle.msc_tree.specs.declared.event.Target.{Target}
use Rattle.msc_tree.specs.declared.event.Target.TheVariants.{Nobody, Env, Instance, Gate}

abbrev pub is_message : Kind → Bool
is_message Output = true
is_message Input = true
is_message _ = false

abbrev pub is_plain_end : Target → Bool
is_plain_end Nobody = false
is_plain_end (Env None) = true
is_plain_end (Env (Some gate)) = false
is_plain_end (Instance name) = true
is_plain_end (Gate name gate) = false

abbrev pub is_nil : List (List ℕ) → Bool
is_nil [] = true
is_nil (x ∷ xs) = false

abbrev pub is_unordered : RawEvent → Bool
is_unordered e = is_none e.order.event_name && (is_nil e.order.earlier_than && is_nil e.order.later_than)

abbrev pub is_plain : RawEvent → Bool
is_plain e = is_message e.kind && (is_plain_end e.target && is_unordered e)
