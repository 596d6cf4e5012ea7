use Rattle.std.proofs.Common.{take}
use Rattle.hmsc_graph.specs.Searches.{OneLeads}
use Rattle.hmsc_graph.specs.Spots.{goal_of}
use Rattle.hmsc_graph.proofs.walks.one_leads.Given as goal

abbrev pub invariant-loop-node : goal.invariant-loop-node
invariant-loop-node l = OneLeads l.net (take l.node-index l.nodes) l.allowed.nodes l.leading.nodes (goal_of l.to) → ⊥
