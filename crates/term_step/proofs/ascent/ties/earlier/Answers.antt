use Rattle.std.proofs.Common.{◌+◌, ◌∙◌, sym, ap, arith}
use Rattle.bit_sets.specs.Blocks.{BlockValue}
use Rattle.term_step.proofs.EarlierPairs.{added_all, added_more, added_none, added_on, added_within}
use Rattle.term_step.proofs.ascent.ties.earlier.Goals as goal

pub loop-at-init : goal.loop-at-init
loop-at-init c = record {
  instances = ap (λ (b : BlockValue). b.instances) c.empty-block.ensures;
  added = added_none c.args.number c.args.pairs.now c.empty-block.result.events (ap (λ (b : BlockValue). b.events) c.empty-block.ensures);
}

pub at-requires : goal.at-requires
at-requires c = added_within c.args.number c.args.pairs.now c.loop-at.from c.in-Some.at c.loop-at.block.events c.loop-at.invariant.added (sym c.in-Some.is ∙ c.next_second.ensures)

pub loop-at-smaller : goal.loop-at-smaller
loop-at-smaller c =
    let w = added_within c.args.number c.args.pairs.now c.loop-at.from c.in-Some.at c.loop-at.block.events c.loop-at.invariant.added (sym c.in-Some.is ∙ c.next_second.ensures) in
    let g = added_on c.args.number c.args.pairs.now c.loop-at.from c.in-Some.at c.loop-at.block.events c.loop-at.invariant.added (sym c.in-Some.is ∙ c.next_second.ensures) in
    omega (arith, w, g)

pub loop-at-preserved : goal.loop-at-preserved
loop-at-preserved c = record {
  instances = ap (λ (b : BlockValue). b.instances) c.in_ok-add_event.ensures.ok ∙ c.loop-at.invariant.instances;
  added =
      added_more c.args.number c.args.pairs.now c.loop-at.from c.in-Some.at c.loop-at.block.events c.loop-at.invariant.added (sym c.in-Some.is ∙ c.next_second.ensures) c.at.result (c.in-Some.at + 1) c.add_event.new.self.events c.at.ensures (ap (λ (b : BlockValue). b.events) c.in_ok-add_event.ensures.ok) (omega arith);
}

pub returns-clause-events : goal.returns-clause-events
returns-clause-events c = added_all c.args.number c.args.pairs.now c.loop-at.from c.loop-at.block.events c.loop-at.invariant.added (sym c.in_default.is ∙ c.next_second.ensures)
