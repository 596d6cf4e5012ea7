use Rattle.chart_term.specs.NormalForms.{begun}
use Rattle.term_sets.proofs.Choosing.{more_events}
use Rattle.term_sets.proofs.subsets.are_events.Goals as goal

pub loop-index-preserved : goal.loop-index-preserved
loop-index-preserved c = more_events (begun c.args.parts.now) c.loop-index.index c.term_at.result.now c.term_at.ensures c.loop-index.invariant (c.is_event.ensures c.if-not-is_event.false)
