use Rattle.chart_links.proofs.RowFacts.{empty_more, empty_start}
use Rattle.chart_links.proofs.rows.empty_rows.Goals as goal

pub loop-init : goal.loop-init
loop-init c = empty_start c.new-rows.result.items c.new-rows.ensures.items

pub loop-preserved : goal.loop-preserved
loop-preserved c = empty_more c.loop.counter c.loop.rows.items c.push.new.self.items _ c.in_ok-push.ensures.items c.new.ensures c.loop.invariant
