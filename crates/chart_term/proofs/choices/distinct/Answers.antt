use Rattle.std.proofs.Common.{◌∙◌}
use Rattle.std.specs.BTreeSet.{contains}
use Rattle.chart_term.specs.Order.{tree_cmp}
use Rattle.chart_term.proofs.Distinct.{seen_next, kept_new, kept_met}
use Rattle.chart_term.proofs.choices.distinct.Goals as goal
use Rattle.chart_term.proofs.choices.distinct.Goals.{then-branch+in_ok-copy-2+in_ok-push, else-branch}

pub loop-part-preserved : goal.loop-part-preserved
loop-part-preserved c = record {
  kept = elim c.if-branch.branch [
    | then-branch+in_ok-copy-2+in_ok-push w ↦
        w.kept-is ∙ kept_new c.as_slice-part-items.result.now c.loop-part.part-index c.part-item.result c.in_ok-copy.field-0 w.in_ok-copy-2.field-0 c.loop-part.kept w.push.new.self c.in_ok-insert.field-0 (contains tree_cmp c.loop-part.seen c.in_ok-copy.field-0)
        c.loop-part-test.true c.part-item.is c.in_ok-copy.ensures w.in_ok-copy-2.ensures c.loop-part.invariant.kept w.in_ok-push.ensures.ok c.in_ok-insert.ensures.added w.if-branch.true (c.loop-part.invariant.seen c.in_ok-copy.field-0)
    | else-branch w ↦
        w.kept-is ∙ kept_met c.as_slice-part-items.result.now c.loop-part.part-index c.part-item.result c.in_ok-copy.field-0 c.loop-part.kept c.in_ok-insert.field-0 (contains tree_cmp c.loop-part.seen c.in_ok-copy.field-0)
        c.loop-part-test.true c.part-item.is c.in_ok-copy.ensures c.loop-part.invariant.kept c.in_ok-insert.ensures.added w.if-branch.false (c.loop-part.invariant.seen c.in_ok-copy.field-0)
  ];
  seen = λ y.
      seen_next c.as_slice-part-items.result.now c.loop-part.part-index c.part-item.result c.in_ok-copy.field-0 y (contains tree_cmp c.loop-part.seen y) (contains tree_cmp c.insert.new.self y)
      c.loop-part-test.true c.part-item.is c.in_ok-copy.ensures (c.in_ok-insert.ensures.updates.0 y) (c.loop-part.invariant.seen y);
}
