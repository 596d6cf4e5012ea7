use Rattle.std.proofs.Common.{Option, ℕ, List, length, reverse, sym, subst}
use Rattle.hmsc_graph.specs.Steps.{IsEndOfWay}
use Rattle.hmsc_graph.specs.Ways.{IsWay}
use Rattle.hmsc_graph.proofs.WayFacts.{one_back, earlier_within, index_within, way_on}
use Rattle.hmsc_graph.proofs.ways.way_to.Goals as goal

pub loop-at-smaller : goal.loop-at-smaller
loop-at-smaller c = one_back c.at-step.result.now.before c.loop-at.at c.in-Some.index c.in-Some.is (c.requires.back c.in-Some.index c.at-step.result.now c.at-step.ensures)

pub loop-at-preserved : goal.loop-at-preserved
loop-at-preserved c = record {
  within =
      earlier_within c.at-step.result.now.before c.in-Some.index (length c.args.steps.now) (c.requires.back c.in-Some.index c.at-step.result.now c.at-step.ensures)
      (index_within c.loop-at.at c.in-Some.index (length c.args.steps.now) c.in-Some.is c.loop-at.invariant.within);
  way = λ g allowed from to step are at there.
      way_on g allowed from to c.args.steps.now c.loop-at.at c.in-Some.index c.at-step.result.now c.loop-at.way.items c.push.new.self.items are c.in-Some.is c.at-step.ensures c.in_ok-push.ensures.items
      (c.loop-at.invariant.way g allowed from to step are at there);
}

pub returns : goal.returns
returns c = λ g allowed from to step are at there.
    subst (λ (l : List ℕ). IsWay g allowed from to l) (sym c.reverse.ensures.items)
    (subst (λ (o : Option ℕ). IsEndOfWay g allowed from to c.args.steps.now o (reverse c.loop-at.way.items)) c.in_default.is (c.loop-at.invariant.way g allowed from to step are at there))
