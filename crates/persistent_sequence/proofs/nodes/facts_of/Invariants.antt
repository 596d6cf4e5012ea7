use Rattle.std.proofs.Common.{take}
use Rattle.persistent_sequence.proofs.nodes.facts_of.Given as goal

abbrev pub invariant-loop-item : goal.invariant-loop-item
invariant-loop-item g l = g.T.Summed.describes (take l.item-index l.items) l.facts
