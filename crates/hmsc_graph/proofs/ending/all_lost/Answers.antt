use Rattle.std.proofs.Common.{◌∙◌, sym}
use Rattle.std.proofs.lemmas.Bool.{true≢false}
use Rattle.hmsc_graph.proofs.EndFacts.{lost_kept, lost_more}
use Rattle.hmsc_graph.proofs.ending.all_lost.Goals as goal
use Rattle.hmsc_graph.proofs.ending.all_lost.Goals.{then-has+then-not-has, else-has, else-has-via-then-has+else-not-has, else-has-via-else-has}

pub loop-node-preserved : goal.loop-node-preserved
loop-node-preserved c =
    let reached = c.args.reached.now.nodes in
    let ending = c.args.ending.now.nodes in
    let n = c.loop-node.node in
    let are = c.loop-node.invariant.nodes in
    elim c.if-has.branch [
      | then-has+then-not-has w ↦
          rw w.lost-is (record {
            size = w.add.ensures.size ∙ c.loop-node.invariant.size;
            nodes = lost_more n reached ending c.loop-node.lost.nodes w.add.new.self.nodes (c.has.ensures.has.0 w.if-has.true)
                (λ i. true≢false (sym (w.has-then-has.ensures.has.1 i) ∙ w.if-not-has.true)) are w.add.ensures.nodes;
          })
      | else-has w ↦
          rw w.lost-is (record {
            size = c.loop-node.invariant.size;
            nodes = elim w.else-has.branch [
              | else-has-via-then-has+else-not-has v ↦ lost_kept n reached ending c.loop-node.lost.nodes (λ there. v.has-then-has.ensures.has.0 v.if-not-has.false) are
              | else-has-via-else-has v ↦ lost_kept n reached ending c.loop-node.lost.nodes (λ there. absurd (true≢false (sym (c.has.ensures.has.1 there) ∙ v.if-has.false))) are
            ];
          })
    ]
