use Rattle.std.proofs.Common.{◌+◌, ap, sym, ◌∙◌, subst}
use Rattle.chart_term.specs.NormalForms.{begun}
use Rattle.term_sets.proofs.Choosing.{AreBitsTo, one_bit, same_bits}
use Rattle.term_sets.proofs.subsets.bits_of.Goals.{then-has_label+in_ok-push, else-has_label}
use Rattle.term_sets.proofs.subsets.bits_of.Goals as goal

pub loop-index-preserved : goal.loop-index-preserved
loop-index-preserved c =
    let xs = begun c.args.events.now in
    let i = c.loop-index.index in
    let x = c.term_at.result.now in
    elim c.if-has_label.branch [
      | then-has_label+in_ok-push w ↦ one_bit xs c.args.label i x c.loop-index.bits.items c.if-has_label.bits.items c.has_label.result c.term_at.ensures c.has_label.ensures w.if-has_label.true c.loop-index.invariant (ap (λ v. v.items) w.bits-is ∙ w.in_ok-push.ensures.items)
      | else-has_label w ↦ subst (λ v. AreBitsTo xs c.args.label (i + 1) v.items) (sym w.bits-is) (same_bits xs c.args.label i x c.loop-index.bits.items c.has_label.result c.term_at.ensures c.has_label.ensures w.if-has_label.false c.loop-index.invariant)
    ]
