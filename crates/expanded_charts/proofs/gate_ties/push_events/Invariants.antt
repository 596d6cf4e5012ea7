use Rattle.std.proofs.Common.{◌≡◌, ◌++◌, map, take}
use Rattle.msc_meaning.specs.Calls.{events_calls}
use Rattle.msc_meaning.specs.Ties.{event_ties}
use Rattle.msc_meaning.specs.Views.{node_view}
use Rattle.expanded_charts.specs.GateTies.{ties_view}
use Rattle.expanded_charts.proofs.gate_ties.push_events.Given as goal

abbrev pub invariant-loop-node : goal.invariant-loop-node
invariant-loop-node l = ties_view l.ties.items ≡ ties_view l.fn.ties.items ++ event_ties (events_calls (map node_view (take l.node-index l.nodes)))
