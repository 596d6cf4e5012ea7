use Rattle.std.proofs.Common.{◌≡◌, ◌++◌, drop, map}
use Rattle.msc_meaning.specs.Calls.{events_calls}
use Rattle.msc_meaning.specs.Views.{node_view}
use Rattle.gate_ends.specs.CallViews.{calls_view}
use Rattle.gate_ends.proofs.calls.add_events.Given as goal

abbrev pub invariant-loop-node : goal.invariant-loop-node
invariant-loop-node l = calls_view l.calls.items ++ events_calls (map node_view (drop l.node-index l.nodes)) ≡ calls_view l.initial.calls.items ++ events_calls (map node_view l.nodes)
