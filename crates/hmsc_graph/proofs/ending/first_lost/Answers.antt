use Rattle.std.proofs.Common.{◌∙◌, arith, sym, below_more}
use Rattle.std.proofs.lemmas.Bool.{true≢false}
use Rattle.hmsc_graph.proofs.ending.first_lost.Goals as goal
use Rattle.hmsc_graph.proofs.ending.first_lost.Goals.{else-has-via-then-has+else-not-has, else-has-via-else-has}

pub loop-node-preserved : goal.loop-node-preserved
loop-node-preserved c = below_more _ _ c.loop-node.invariant (λ there. elim c.else-has.branch [
  | else-has-via-then-has+else-not-has w ↦ w.has-then-has.ensures.has.0 w.if-not-has.false
  | else-has-via-else-has w ↦ absurd (true≢false (sym (c.has.ensures.has.1 there) ∙ w.if-has.false))
])

pub returns : goal.returns
returns c = λ m below. c.loop-node.invariant m (omega arith)
