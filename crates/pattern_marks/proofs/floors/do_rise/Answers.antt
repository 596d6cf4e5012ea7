use Rattle.std.proofs.Common.{◌<◌, length, arith}
use Rattle.pattern_marks.proofs.MarkReading.{no_mark}
use Rattle.pattern_marks.proofs.Waits.{under_all, under_more, under_not}
use Rattle.pattern_marks.proofs.floors.do_rise.Goals as goal

pub returns-then-not-branch : goal.returns-then-not-branch
returns-then-not-branch c =
    let low : c.loop-mark.mark-index < length c.args.marks.now = omega arith in
    λ ts. under_not ts c.args.marks.now c.loop-mark.mark-index no_mark c.in_ok-take.field-0 c.loop-mark.floors c.take.new.self low c.if-not-branch.true c.in_ok-take.ensures (c.loop-mark.invariant ts)

pub loop-mark-preserved : goal.loop-mark-preserved
loop-mark-preserved c =
    let low : c.loop-mark.mark-index < length c.args.marks.now = omega arith in
    λ ts. under_more ts c.args.marks.now c.loop-mark.mark-index no_mark c.in_ok-take.field-0 c.loop-mark.floors c.take.new.self low c.if-not-branch.false c.in_ok-take.ensures (c.loop-mark.invariant ts)

pub returns : goal.returns
returns c = λ ts. under_all ts c.args.marks.now c.loop-mark.mark-index c.loop-mark.floors (λ (l : c.loop-mark.mark-index < length c.args.marks.now). omega arith) (c.loop-mark.invariant ts)
