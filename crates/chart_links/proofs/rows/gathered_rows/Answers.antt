use Rattle.chart_links.proofs.RowFacts.{gathered_all}
use Rattle.chart_links.proofs.rows.gathered_rows.Goals as goal

pub returns : goal.returns
returns c = gathered_all c.args.over.now c.args.sets.now c.loop-first.rows.items c.loop-first.first-index c.loop-first-test.false c.loop-first.invariant.len c.loop-first.auto.first-index-end c.loop-first.invariant.has
