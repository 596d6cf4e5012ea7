-- Serves private contracts alone.
-- The plain callers and gates that those of the code stand for, and the gates that a caller names.
use Rattle.std.specs.Prelude.{List, Option, None, Some, map, option_map}
use Rattle.msc_tree.specs.declared.reference.JoinEnd.{JoinEnd}
use Rattle.msc_tree.specs.declared.reference.JoinEnd.TheVariants as join_end
use Rattle.msc_tree.specs.Views.{expression_view}
use Rattle.msc_meaning.specs.declared.body.ReferenceItem.{ReferenceItem}
use Rattle.msc_meaning.specs.Bodies.{ReferencePart}
use Rattle.msc_meaning.specs.Views.{node_view}
use Rattle.gate_rules.specs.declared.caller.Caller.{Caller}
use Rattle.gate_rules.specs.declared.caller.Caller.TheVariants.{Event, Join as JoinOf}
use Rattle.gate_rules.specs.declared.caller.GateKey.{GateKey}
use Rattle.gate_rules.specs.GateRules as plain

abbrev pub key_view : GateKey → plain.GateName
key_view key = record { name = key.name.now; gate = key.gate.now }

abbrev pub part_view : ReferenceItem → ReferencePart
part_view r = record { name = r.name; expression = expression_view r.expr; joins = r.joins; cover = r.cover; place = r.place }

abbrev pub caller_view : Caller → plain.Caller
caller_view (Event node key) = plain.by_event (node_view node.now) key.name.now key.gate.now
caller_view (JoinOf reference join) = plain.by_join (part_view reference.now) join.now

abbrev pub callers_view : List Caller → List plain.Caller
callers_view cs = map caller_view cs

-- the gate of its own reference, where that has a name
abbrev pub own_gate_of : plain.Caller → Option plain.GateName
own_gate_of (plain.by_event n name gate) = None
own_gate_of (plain.by_join part j) = option_map (λ name. record { name = name; gate = j.gate }) part.name

abbrev pub far_join : JoinEnd → Option plain.GateName
far_join (join_end.Env to) = None
far_join (join_end.Reference name to) = Some (record { name = name; gate = to })

-- the gate of another, which it calls
abbrev pub far_gate : plain.Caller → Option plain.GateName
far_gate (plain.by_event n name gate) = Some (record { name = name; gate = gate })
far_gate (plain.by_join part j) = far_join j.to
