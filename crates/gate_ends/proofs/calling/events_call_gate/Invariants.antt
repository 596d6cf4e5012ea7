use Rattle.std.proofs.Common.{◌≡◌, [], map, take}
use Rattle.msc_meaning.specs.Calls.{events_calls}
use Rattle.msc_meaning.specs.Views.{node_view}
use Rattle.gate_ends.proofs.calling.events_call_gate.Given as goal

abbrev pub invariant-loop-node : goal.invariant-loop-node
invariant-loop-node l = events_calls (map node_view (take l.node-index l.nodes)) ≡ []
