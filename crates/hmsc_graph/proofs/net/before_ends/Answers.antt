use Rattle.std.proofs.Common.{[], ◌≡◌, ◌∙◌, get_or, subst, List, ℕ, rules, sym, arith}
use Rattle.std.proofs.lemmas.Bool.{true≢false}
use Rattle.msc_base.specs.Lists.{IsIn}
use Rattle.hmsc_graph.specs.Reversals.{HasEnd}
use Rattle.hmsc_graph.proofs.EdgeFacts.{get_default, before_with, before_without}
use Rattle.hmsc_graph.proofs.net.before_ends.Goals as goal
use Rattle.hmsc_graph.proofs.net.before_ends.Goals.{then-has_end+in_ok-push, else-has_end}

pub has_end-requires : goal.has_end-requires
has_end-requires c = λ m i.
    let here : c.as_slice.result.now ≡ get_or c.args.next.now c.loop-node.node [] = c.as_slice.ensures ∙ c.index-next-node.is ∙ get_default c.args.next.now c.loop-node.node c.index-next-node.result (omega arith) in
    c.requires.below c.loop-node.node m (subst (λ (l : List ℕ). IsIn m l) here i)

pub loop-node-preserved : goal.loop-node-preserved
loop-node-preserved c =
    let here : c.as_slice.result.now ≡ get_or c.args.next.now c.loop-node.node [] = c.as_slice.ensures ∙ c.index-next-node.is ∙ get_default c.args.next.now c.loop-node.node c.index-next-node.result (omega arith) in
    elim c.if-has_end.branch [
      | then-has_end+in_ok-push w ↦
          before_with c.args.next.now c.args.ends.now c.loop-node.node c.loop-node.nodes c.loop-node.invariant c.if-has_end.nodes (search rules)
          (subst (HasEnd c.args.ends.now) here (c.has_end.ensures.0 w.if-has_end.true))
      | else-has_end w ↦
          rw w.nodes-is (before_without c.args.next.now c.args.ends.now c.loop-node.node c.loop-node.nodes c.loop-node.invariant
          (λ h. true≢false (sym (c.has_end.ensures.1 (subst (HasEnd c.args.ends.now) (sym here) h)) ∙ w.if-has_end.false)))
    ]
