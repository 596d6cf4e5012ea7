use Rattle.std.proofs.Common.{take}
use Rattle.hmsc_graph.specs.Searches.{HasEntered}
use Rattle.hmsc_graph.proofs.search.enter.Given as goal

abbrev pub invariant-loop-node : goal.invariant-loop-node
invariant-loop-node l = HasEntered (take l.node-index l.nodes) l.initial.reached l.initial.waiting.items l.reached l.waiting.items
