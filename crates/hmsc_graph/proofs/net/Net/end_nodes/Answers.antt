use Rattle.std.proofs.Common.{◌∙◌, arith, rules, sym}
use Rattle.hmsc_graph.proofs.EdgeFacts.{ends_with, ends_without}
use Rattle.hmsc_graph.proofs.net.Net.end_nodes.Goals as goal
use Rattle.hmsc_graph.proofs.net.Net.end_nodes.Goals.{then-is_end+in_ok-push, else-is_end}

pub loop-node-preserved : goal.loop-node-preserved
loop-node-preserved c = elim c.if-is_end.branch [
  | then-is_end+in_ok-push w ↦ ends_with c.args.self.now c.loop-node.node c.loop-node.nodes c.loop-node.invariant c.if-is_end.nodes (search rules) (sym c.is_end.ensures ∙ w.if-is_end.true)
  | else-is_end w ↦ rw w.nodes-is (ends_without c.args.self.now c.loop-node.node c.loop-node.nodes c.loop-node.invariant (sym c.is_end.ensures ∙ w.if-is_end.false))
]

pub returns-clause-below : goal.returns-clause-below
returns-clause-below c = λ m i. let below = ((c.loop-node.invariant m).0 i).0 in omega (arith, below, c.loop-node.auto.node-end, c.size-node-end.ensures.size)
