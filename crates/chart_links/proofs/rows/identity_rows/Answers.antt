use Rattle.chart_links.proofs.RowFacts.{identity_more, identity_start}
use Rattle.chart_links.proofs.rows.identity_rows.Goals as goal

pub loop-number-init : goal.loop-number-init
loop-number-init c = identity_start c.new-rows.result.items c.new-rows.ensures.items

pub loop-number-preserved : goal.loop-number-preserved
loop-number-preserved c = identity_more c.loop-number.number c.loop-number.rows.items c.push.new.self.items _ c.in_ok-push.ensures.items c.in_ok-only.ensures c.loop-number.invariant
