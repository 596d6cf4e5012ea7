use Rattle.chart_term.specs.NormalForms.{begun}
use Rattle.term_sets.proofs.Choosing.{other_before}
use Rattle.term_sets.proofs.subsets.stands_before.Goals as goal

pub loop-before-preserved : goal.loop-before-preserved
loop-before-preserved c =
    other_before (begun c.args.parts.now) c.loop-before.before c.args.index c.term_at.result.now c.term_at-in-loop-before.result.now c.same.result c.term_at.ensures c.term_at-in-loop-before.ensures c.same.ensures c.if-same.false c.loop-before.invariant
