use Rattle.std.proofs.Common.{rules, ◌≤◌, ◌<◌, ◌⊎◌, length, arith, sym, ◌∙◌, inl, inr, ap, ap₂, refl, subst}
use Rattle.std.specs.Ordering.{nat_cmp, ordering_then}
use Rattle.msc_base.specs.Patterns.{seq, par}
use Rattle.chart_term.specs.Rows.{part_of}
use Rattle.chart_term.specs.TermViews.{IsFull, tree_of}
use Rattle.chart_term.specs.Terms.{Join, Choice}
use Rattle.chart_term.proofs.Comparing.{compared_joined, compared_loops, goes_down, heavy_as, heavy_told, parts_ended, parts_on, parts_told, rows_end, untold}
use Rattle.chart_term.specs.Order.{tree_cmp}
use Rattle.chart_term.proofs.term.+compare.Goals as goal
use Rattle.chart_term.proofs.term.+compare.Goals.{PartList::compare_parts-then-loop-at-test+then-at-count+else-at-other_count, PartList::compare_parts-then-loop-at-test+else-at-count, PartList::compare_parts-else-loop-at-test}

pub Term::compare_light-returns-in-Seq-Seq : goal.Term::compare_light-returns-in-Seq-Seq
Term::compare_light-returns-in-Seq-Seq t c =
    compared_joined (Join seq) (λ us vs. refl) (λ us. refl) c.in-Seq-Seq.parts c.in-Seq-Seq.others c.args.self.now c.args.other.now c.compare_light.result (subst IsFull c.in-Seq-Seq.is-0 c.node.invariant.1) (subst IsFull c.in-Seq-Seq.is-1 c.other_node.invariant.1)
    (ap tree_of (sym c.in-Seq-Seq.is-0) ∙ c.node.view_is ∙ c.deref-node.ensures ∙ c.self.view_is) (ap tree_of (sym c.in-Seq-Seq.is-1) ∙ c.other_node.view_is ∙ c.deref-other_node.ensures ∙ c.other.view_is) c.compare_light.ensures

pub Term::compare_light-returns-in-Par-Par : goal.Term::compare_light-returns-in-Par-Par
Term::compare_light-returns-in-Par-Par t c =
    compared_joined (Join par) (λ us vs. refl) (λ us. refl) c.in-Par-Par.parts c.in-Par-Par.others c.args.self.now c.args.other.now c.compare_light-in-Par-Par.result (subst IsFull c.in-Par-Par.is-0 c.node.invariant.1) (subst IsFull c.in-Par-Par.is-1 c.other_node.invariant.1)
    (ap tree_of (sym c.in-Par-Par.is-0) ∙ c.node.view_is ∙ c.deref-node.ensures ∙ c.self.view_is) (ap tree_of (sym c.in-Par-Par.is-1) ∙ c.other_node.view_is ∙ c.deref-other_node.ensures ∙ c.other.view_is) c.compare_light-in-Par-Par.ensures

pub Term::compare_light-returns-in-Choice-Choice : goal.Term::compare_light-returns-in-Choice-Choice
Term::compare_light-returns-in-Choice-Choice t c =
    compared_joined (Choice) (λ us vs. refl) (λ us. refl) c.in-Choice-Choice.parts c.in-Choice-Choice.others c.args.self.now c.args.other.now c.compare_light-in-Choice-Choice.result (subst IsFull c.in-Choice-Choice.is-0 c.node.invariant.1).0 (subst IsFull c.in-Choice-Choice.is-1 c.other_node.invariant.1).0
    (ap tree_of (sym c.in-Choice-Choice.is-0) ∙ c.node.view_is ∙ c.deref-node.ensures ∙ c.self.view_is) (ap tree_of (sym c.in-Choice-Choice.is-1) ∙ c.other_node.view_is ∙ c.deref-other_node.ensures ∙ c.other.view_is) c.compare_light-in-Choice-Choice.ensures

pub Term::compare_light-returns-in-Equal-then : goal.Term::compare_light-returns-in-Equal-then
Term::compare_light-returns-in-Equal-then t c =
    compared_loops c.in-Loop-Loop.parts.value.body c.in-Loop-Loop.others.value.body c.in-Loop-Loop.parts.value.lower c.in-Loop-Loop.others.value.lower c.in-Loop-Loop.parts.value.upper c.in-Loop-Loop.others.value.upper c.in-Loop-Loop.parts.value.row c.in-Loop-Loop.others.value.row c.args.self.now c.args.other.now c.compare_light-in-Equal-then.result (search rules)
    (ap tree_of (sym c.in-Loop-Loop.is-0) ∙ c.node.view_is ∙ c.deref-node.ensures ∙ c.self.view_is) (ap tree_of (sym c.in-Loop-Loop.is-1) ∙ c.other_node.view_is ∙ c.deref-other_node.ensures ∙ c.other.view_is) (search rules)

pub PartList::compare_light-returns-then-shared-eq0 : goal.PartList::compare_light-returns-then-shared-eq0
PartList::compare_light-returns-then-shared-eq0 t c =
    let over : (length c.args.self.now ≤ 0) ⊎ (length c.args.other.now ≤ 0) = grind (arith, c.if-shared-eq0.true, c.min-shared.ensures, c.len.ensures, c.len-2.ensures) in
    c.cmp.ensures ∙ ap₂ nat_cmp c.len-then-shared-eq0.ensures c.len-then-shared-eq0-2.ensures ∙ sym (rows_end c.args.self.now c.args.other.now 0 (omega arith) (omega arith) over)

pub PartList::compare_light-returns-in-Turn-Turn : goal.PartList::compare_light-returns-in-Turn-Turn
PartList::compare_light-returns-in-Turn-Turn t c =
    heavy_as c.args.self.now c.args.other.now c.loop-at.heavy c.max-end.result (part_of c.at-2.result.now) (part_of c.at-3.result.now)
    (omega (arith, c.loop-at.invariant, c.min-shared.ensures, c.len.ensures, c.len-2.ensures)) (omega (arith, c.loop-at.invariant, c.min-shared.ensures, c.len.ensures, c.len-2.ensures)) c.at-2.ensures c.at-3.ensures
    c.compare_parts-front.result c.compare_parts-behind.result c.compare_parts-front.ensures c.compare_parts-behind.ensures
    (omega (arith, c.max-end.ensures, c.len-3.ensures, c.len-4.ensures)) (omega (arith, c.max-end.ensures, c.len-3.ensures, c.len-4.ensures))
    c.in-Turn-Turn.turn c.in-Turn-Turn.second (ap part_of c.in-Turn-Turn.is-0) (ap part_of c.in-Turn-Turn.is-1) (sym c.ne.ensures ∙ c.if-ne.false)

pub PartList::compare_light-returns-in_default-2 : goal.PartList::compare_light-returns-in_default-2
PartList::compare_light-returns-in_default-2 t c =
    heavy_told c.args.self.now c.args.other.now c.loop-at.heavy c.max-end.result (part_of c.at-2.result.now) (part_of c.at-3.result.now)
    (omega (arith, c.loop-at.invariant, c.min-shared.ensures, c.len.ensures, c.len-2.ensures)) (omega (arith, c.loop-at.invariant, c.min-shared.ensures, c.len.ensures, c.len-2.ensures)) c.at-2.ensures c.at-3.ensures
    c.compare_parts-front.result c.compare_parts-behind.result c.compare_parts-front.ensures c.compare_parts-behind.ensures
    (omega (arith, c.max-end.ensures, c.len-3.ensures, c.len-4.ensures)) (omega (arith, c.max-end.ensures, c.len-3.ensures, c.len-4.ensures))
    c.compare.result c.then.result c.compare.ensures c.then.ensures (sym c.ne.ensures ∙ c.if-ne.false)

pub PartList::compare_parts-returns-then-ne : goal.PartList::compare_parts-returns-then-ne
PartList::compare_parts-returns-then-ne t c =
    parts_told c.args.self.now c.args.other.now c.args.from c.loop-at.at c.args.to (part_of c.at.result.now) (part_of c.at-in-loop-at.result.now) c.compare-order.result
    (omega (arith, c.if-at-count.true, c.len-count.ensures)) (omega (arith, c.if-at-other_count.true, c.len-other_count.ensures)) c.at.ensures c.at-in-loop-at.ensures c.compare-order.ensures c.loop-at.invariant.alike (sym c.ne.ensures ∙ c.if-ne.true)

pub PartList::compare_parts-loop-at-preserved : goal.PartList::compare_parts-loop-at-preserved
PartList::compare_parts-loop-at-preserved t c = record {
  behind = omega (arith, c.loop-at.invariant.behind);
  up = omega (arith, c.loop-at-test.true);
  within = omega (arith, c.if-at-count.true, c.len-count.ensures);
  other_within = omega (arith, c.if-at-other_count.true, c.len-other_count.ensures);
  alike =
      parts_on c.args.self.now c.args.other.now c.args.from c.loop-at.at (part_of c.at.result.now) (part_of c.at-in-loop-at.result.now) c.compare-order.result
      (omega (arith, c.if-at-count.true, c.len-count.ensures)) (omega (arith, c.if-at-other_count.true, c.len-other_count.ensures)) c.at.ensures c.at-in-loop-at.ensures c.compare-order.ensures c.loop-at.invariant.alike (sym c.ne.ensures ∙ c.if-ne.false);
}

pub PartList::compare_parts-returns : goal.PartList::compare_parts-returns
PartList::compare_parts-returns t c =
    let below : c.loop-at.at < c.args.to = omega (arith, c.if-at-to.false, c.loop-at.invariant.up) in
    let over : (length c.args.self.now ≤ c.loop-at.at) ⊎ (length c.args.other.now ≤ c.loop-at.at) = elim c.loop-at-test.branch [
      | PartList::compare_parts-then-loop-at-test+then-at-count+else-at-other_count w ↦ inr (omega (arith, w.if-at-other_count.false, c.len-other_count.ensures))
      | PartList::compare_parts-then-loop-at-test+else-at-count w ↦ inl (omega (arith, w.if-at-count.false, c.len-count.ensures))
      | PartList::compare_parts-else-loop-at-test w ↦ absurd (omega (arith, w.loop-at-test.false, below))
    ] in
    parts_ended c.args.self.now c.args.other.now c.args.from c.loop-at.at c.args.to c.cmp.result below c.loop-at.invariant.within c.loop-at.invariant.other_within over (c.cmp.ensures ∙ ap₂ nat_cmp c.len-count.ensures c.len-other_count.ensures) c.loop-at.invariant.alike

pub Term::compare-loop-first-preserved : goal.Term::compare-loop-first-preserved
Term::compare-loop-first-preserved t c =
    let down = rw c.in-As.is at c.compare_light.ensures in
    record {
      same =
          ap (ordering_then (tree_cmp c.in-As.inner.now c.in-As.other_inner.now)) c.then-behind.ensures
          ∙ goes_down c.loop-first.first.now c.loop-first.second.now c.args.self.now c.args.other.now c.in-As.inner.now c.in-As.other_inner.now c.cmp-codes.result c.in-As.order c.loop-first.behind (c.cmp-codes.ensures ∙ ap₂ nat_cmp c.facts.ensures.code c.facts-in-loop-first.ensures.code) (untold c.cmp-codes.result (sym c.ne.ensures ∙ c.if-ne.false)) down.0 c.loop-first.invariant.same;
      within = omega (arith, down.1, c.loop-first.invariant.within);
    }
