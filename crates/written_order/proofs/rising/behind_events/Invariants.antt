use Rattle.std.proofs.Common.{map, take}
use Rattle.msc_meaning.specs.Views.{node_view}
use Rattle.written_order.specs.Rising.{RiseTo}
use Rattle.written_order.proofs.rising.behind_events.Given as goal

abbrev pub invariant-loop-node : goal.invariant-loop-node
invariant-loop-node l = RiseTo l.low (map node_view (take l.node-index l.nodes)) l.high
