use Rattle.std.proofs.Common.{◌<◌, ◌≤◌, length, refl, arith}
use Rattle.pattern_marks.proofs.MarkReading.{no_mark}
use Rattle.pattern_marks.proofs.Meeting.{all_met, counted_more, met_more, not_met}
use Rattle.pattern_marks.proofs.places.are_placed.Goals as goal

pub returns-then-not-take : goal.returns-then-not-take
returns-then-not-take c =
    let low : c.loop-mark.mark-index < length c.args.marks.now = omega arith in
    not_met c.args.labels.now c.args.marks.now c.loop-mark.mark-index no_mark c.take.result c.loop-mark.places c.take.new.self low c.if-not-take.true c.take.ensures c.loop-mark.invariant.met

pub loop-mark-preserved : goal.loop-mark-preserved
loop-mark-preserved c =
    let low : c.loop-mark.mark-index < length c.args.marks.now = omega arith in
    record {
      counted = counted_more c.args.labels.now _ c.take.result c.loop-mark.places c.take.new.self c.if-not-take.false c.take.ensures;
      met = met_more c.args.labels.now c.args.marks.now c.loop-mark.mark-index no_mark c.take.result c.loop-mark.places c.take.new.self low c.if-not-take.false c.take.ensures c.loop-mark.invariant.met;
    }

pub returns : goal.returns
returns c =
    let high : length c.args.marks.now ≤ c.loop-mark.mark-index = omega arith in
    all_met c.args.labels.now c.args.marks.now c.loop-mark.mark-index _ c.loop-mark.places high refl c.loop-mark.invariant.met
