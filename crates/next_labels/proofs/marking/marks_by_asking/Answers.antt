use Rattle.std.proofs.Common.{◌∙◌, arith}
use Rattle.next_labels.proofs.Marked.{all_below, next_below, none_below}
use Rattle.next_labels.proofs.marking.marks_by_asking.Goals as goal

pub mark_label-requires-clause-size : goal.mark_label-requires-clause-size
mark_label-requires-clause-size c = c.loop-number.invariant.3.size ∙ c.loop-number.invariant.2

pub loop-number-init : goal.loop-number-init
loop-number-init c = (c.in_ok-marks.marks, c.in_ok-marks.ensures.empty, c.in_ok-marks.ensures.size ∙ c.labels.ensures, none_below c.args.nets.now c.args.set.now c.in_ok-marks.marks)

pub loop-number-preserved : goal.loop-number-preserved
loop-number-preserved c =
    let i = c.loop-number.invariant in
    (i.0, i.1, i.2, next_below c.args.nets.now c.args.set.now c.loop-number.number i.0 c.loop-number.marks c.mark_label.new.marks i.3 c.in_ok-mark_label.ensures)

pub returns : goal.returns
returns c =
    let i = c.loop-number.invariant in
    all_below c.args.nets.now c.args.set.now c.loop-number.number i.0 c.loop-number.marks i.2 (omega (arith, c.labels-number-end.ensures, c.loop-number-test.false)) i.1 i.3
