use Rattle.std.proofs.Common.{take}
use Rattle.expansion_order.specs.Webs.{AreAdded}
use Rattle.expansion_order.proofs.ordering.add_edges.Given as goal

abbrev pub invariant-loop-edge : goal.invariant-loop-edge
invariant-loop-edge l = AreAdded (take l.edge-index l.edges) l.from_by l.to_by l.fn.list l.list
