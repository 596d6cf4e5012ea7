use Rattle.std.proofs.Common.{◌+◌, ◌-◌, ◌*◌, ◌%◌, ◌^◌, Bool, take, slice_index_or, true, false, subst, sym}
use Rattle.term_sets.specs.Words.{AddsWord, TakesEach}
use Rattle.term_sets.specs.declared.words.Words.{Words}
use Rattle.term_sets.proofs.Gaining.{bit_below, takes_bit, takes_cut, takes_over}
use Rattle.term_sets.proofs.words.Words.take_each.Goals as goal
use Rattle.term_sets.proofs.words.Words.take_each.Goals.{else-word-bit-eq1-via-then-word-bit-eq1+in_ok-add+else-not-branch, else-word-bit-eq1-via-else-word-bit-eq1}

pub overflow_shr-word : goal.overflow_shr-word
overflow_shr-word c = bit_below c.args.bits.now c.requires.bits c.loop-index.index c.loop-index-test.true

pub overflow_shl-bit : goal.overflow_shl-bit
overflow_shl-bit c = bit_below c.args.bits.now c.requires.bits c.loop-index.index c.loop-index-test.true

pub returns-then-not-branch : goal.returns-then-not-branch
returns-then-not-branch c =
    let u = c.args.word - 1 * 2 ^ slice_index_or c.args.bits.now c.loop-index.index 0 % 2 ^ 64 in
    takes_cut c.args.bits.now (c.loop-index.index + 1) c.args.word c.args.self.now c.add.new.self
    (takes_bit c.args.bits.now c.requires.bits c.loop-index.index c.loop-index-test.true c.args.word c.if-word-bit-eq1.true c.args.self.now c.loop-index.self c.add.new.self false c.loop-index.invariant
    (subst (λ (b : Bool). AddsWord u c.loop-index.self c.add.new.self b) c.if-not-branch.true c.in_ok-add.ensures))

pub loop-index-preserved : goal.loop-index-preserved
loop-index-preserved c =
    let u = c.args.word - 1 * 2 ^ slice_index_or c.args.bits.now c.loop-index.index 0 % 2 ^ 64 in
    elim c.else-word-bit-eq1.branch [
      | else-word-bit-eq1-via-then-word-bit-eq1+in_ok-add+else-not-branch w ↦
          subst (λ (f : Words). TakesEach (take (c.loop-index.index + 1) c.args.bits.now) c.args.word c.args.self.now f true) (sym w.self-is)
          (takes_bit c.args.bits.now c.requires.bits c.loop-index.index c.loop-index-test.true c.args.word w.if-word-bit-eq1.true c.args.self.now c.loop-index.self w.add.new.self true c.loop-index.invariant
          (subst (λ (b : Bool). AddsWord u c.loop-index.self w.add.new.self b) w.if-not-branch.false w.in_ok-add.ensures))
      | else-word-bit-eq1-via-else-word-bit-eq1 w ↦
          subst (λ (f : Words). TakesEach (take (c.loop-index.index + 1) c.args.bits.now) c.args.word c.args.self.now f true) (sym w.self-is)
          (takes_over c.args.bits.now c.requires.bits c.loop-index.index c.loop-index-test.true c.args.word c.args.self.now c.loop-index.self w.if-word-bit-eq1.false c.loop-index.invariant)
    ]
