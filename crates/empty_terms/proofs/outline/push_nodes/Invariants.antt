use Rattle.empty_terms.proofs.Numbering.{HasSomeNodes}
use Rattle.empty_terms.proofs.outline.push_nodes.Given as goal

abbrev pub invariant-loop-node : goal.invariant-loop-node
invariant-loop-node l = HasSomeNodes l.nets.tables l.net l.node l.fn.terms l.terms
