use Rattle.std.proofs.Common.{◌+◌, Bool, slice_index_or, true, false, subst}
use Rattle.term_sets.specs.Words.{TakesEach}
use Rattle.term_sets.proofs.Gaining.{all_cut, all_next, item_of}
use Rattle.term_sets.proofs.words.Words.take_all.Goals as goal

pub returns-then-not-branch : goal.returns-then-not-branch
returns-then-not-branch c =
    let word = slice_index_or c.args.words.now c.loop-index.index 0 in
    all_cut c.args.bits.now c.args.words.now (c.loop-index.index + 1) c.args.self.now c.take_each.new.self
    (all_next c.args.bits.now c.args.words.now c.loop-index.index word (item_of c.args.words.now c.loop-index.index c.loop-index-test.true) c.args.self.now c.loop-index.self c.take_each.new.self false c.loop-index.invariant
    (subst (λ (b : Bool). TakesEach c.args.bits.now word c.loop-index.self c.take_each.new.self b) c.if-not-branch.true c.in_ok-take_each.ensures))

pub loop-index-preserved : goal.loop-index-preserved
loop-index-preserved c =
    let word = slice_index_or c.args.words.now c.loop-index.index 0 in
    all_next c.args.bits.now c.args.words.now c.loop-index.index word (item_of c.args.words.now c.loop-index.index c.loop-index-test.true) c.args.self.now c.loop-index.self c.take_each.new.self true c.loop-index.invariant
    (subst (λ (b : Bool). TakesEach c.args.bits.now word c.loop-index.self c.take_each.new.self b) c.if-not-branch.false c.in_ok-take_each.ensures)
