use Rattle.std.proofs.Common.{◌<◌, length, arith}
use Rattle.pattern_marks.proofs.MarkReading.{no_mark}
use Rattle.pattern_marks.proofs.Holding.{held_all, held_first, held_more, held_not}
use Rattle.pattern_marks.proofs.ties.are_tied.Goals as goal

pub loop-mark-init : goal.loop-mark-init
loop-mark-init c = held_first c.args.outline.now.terms c.args.marks.now _ c.new-meetings.ensures

pub take-requires : goal.take-requires
take-requires c = c.loop-mark.invariant.linked

pub returns-then-not-branch : goal.returns-then-not-branch
returns-then-not-branch c =
    let low : c.loop-mark.mark-index < length c.args.marks.now = omega arith in
    held_not c.args.outline.now.terms c.args.marks.now c.loop-mark.mark-index no_mark c.in_ok-take.field-0 c.loop-mark.meetings c.take.new.self low c.if-not-branch.true c.in_ok-take.ensures c.loop-mark.invariant

pub loop-mark-preserved : goal.loop-mark-preserved
loop-mark-preserved c =
    let low : c.loop-mark.mark-index < length c.args.marks.now = omega arith in
    held_more c.args.outline.now.terms c.args.marks.now c.loop-mark.mark-index no_mark c.in_ok-take.field-0 c.loop-mark.meetings c.take.new.self low c.if-not-branch.false c.in_ok-take.ensures c.loop-mark.invariant

pub returns : goal.returns
returns c = held_all c.args.outline.now.terms c.args.marks.now c.loop-mark.mark-index c.loop-mark.meetings (λ (l : c.loop-mark.mark-index < length c.args.marks.now). omega arith) c.loop-mark.invariant
