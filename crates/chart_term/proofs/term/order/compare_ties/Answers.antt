use Rattle.std.proofs.Common.{◌≤◌, ◌⊎◌, length, arith, sym, ◌∙◌, inl, inr, ap₂}
use Rattle.std.specs.Ordering.{nat_cmp, ordering_then}
use Rattle.term_facts.proofs.Listing.{got_is, list_cmp-decided, list_cmp-goes_on, list_cmp-end, held_cmp, pairs_by_list}
use Rattle.chart_term.proofs.term.order.compare_ties.Goals as goal
use Rattle.chart_term.proofs.term.order.compare_ties.Goals.{then-loop-at-test+else-at-len, else-loop-at-test}

pub returns-then-ne : goal.returns-then-ne
returns-then-ne c =
    list_cmp-decided held_cmp c.args.pairs.now c.args.others.now c.loop-at.at c.at-pair.result c.at-other.result c.then-order.result (omega (arith, c.loop-at-test.true, c.len.ensures)) (omega (arith, c.if-at-len.true, c.len-in-loop-at.ensures))
    (got_is c.args.pairs.now c.loop-at.at c.at-pair.result c.at-pair.ensures) (got_is c.args.others.now c.loop-at.at c.at-other.result c.at-other.ensures)
    (c.then-order.ensures ∙ ap₂ ordering_then c.cmp-firsts.ensures c.cmp.ensures) c.loop-at.invariant.alike (sym c.ne.ensures ∙ c.if-ne.true) ∙ pairs_by_list c.args.pairs.now c.args.others.now

pub loop-at-preserved : goal.loop-at-preserved
loop-at-preserved c = record {
  within = omega (arith, c.loop-at-test.true, c.len.ensures);
  other_within = omega (arith, c.if-at-len.true, c.len-in-loop-at.ensures);
  alike = list_cmp-goes_on held_cmp c.args.pairs.now c.args.others.now c.loop-at.at c.at-pair.result c.at-other.result c.then-order.result (omega (arith, c.loop-at-test.true, c.len.ensures)) (omega (arith, c.if-at-len.true, c.len-in-loop-at.ensures)) (got_is c.args.pairs.now c.loop-at.at c.at-pair.result c.at-pair.ensures) (got_is c.args.others.now c.loop-at.at c.at-other.result c.at-other.ensures) (c.then-order.ensures ∙ ap₂ ordering_then c.cmp-firsts.ensures c.cmp.ensures) c.loop-at.invariant.alike (sym c.ne.ensures ∙ c.if-ne.false);
}

pub returns : goal.returns
returns c =
    let over : (length c.args.pairs.now ≤ c.loop-at.at) ⊎ (length c.args.others.now ≤ c.loop-at.at) = elim c.loop-at-test.branch [
      | then-loop-at-test+else-at-len w ↦ inr (omega (arith, w.if-at-len.false, w.len-in-loop-at.ensures))
      | else-loop-at-test w ↦ inl (omega (arith, w.loop-at-test.false, c.len.ensures))
    ] in
    c.cmp-2.ensures ∙ ap₂ nat_cmp c.len-2.ensures c.len-3.ensures
    ∙ sym (c.loop-at.invariant.alike ∙ list_cmp-end held_cmp c.args.pairs.now c.args.others.now c.loop-at.at c.loop-at.invariant.within c.loop-at.invariant.other_within over) ∙ pairs_by_list c.args.pairs.now c.args.others.now
