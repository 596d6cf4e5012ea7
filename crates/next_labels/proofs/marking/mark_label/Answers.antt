use Rattle.std.proofs.Common.{◌∙◌, sym}
use Rattle.std.proofs.lemmas.Bool.{true≢false}
use Rattle.next_labels.proofs.Marked.{one_marked, same_marks}
use Rattle.next_labels.proofs.marking.mark_label.Goals as goal

pub returns-then-is_told : goal.returns-then-is_told
returns-then-is_told c = same_marks c.args.nets.now c.args.set.now c.args.number c.args.marks.now (λ a is l g. c.is_told.ensures.marked c.if-is_told.true l)

pub returns-then-not-goes : goal.returns-then-not-goes
returns-then-not-goes c = same_marks c.args.nets.now c.args.set.now c.args.number c.args.marks.now (λ a is l g. absurd (true≢false (sym ((c.in_ok-goes.ensures a is).1 g) ∙ c.if-not-goes.true)))

pub returns : goal.returns
returns c = one_marked c.args.nets.now c.args.set.now c.args.number c.args.marks.now c.add.new.self c.add.ensures.size c.add.ensures.nodes (λ a is. (c.in_ok-goes.ensures a is).0 c.if-not-goes.false)
