use Rattle.std.specs.BTreeMap.{get}
use Rattle.std.specs.Ordering.{nat_cmp}
use Rattle.expanded_charts.proofs.LeftParts.{past_more}
use Rattle.expanded_charts.proofs.past_refining.past_numbers.Goals as goal

pub loop-index-preserved : goal.loop-index-preserved
loop-index-preserved c = past_more (get nat_cmp c.args.numbers.now) c.args.own.now c.loop-index.index c.at.result.now c.loop-index.list c.push_past.new.list c.at.ensures c.loop-index.invariant c.in_ok-push_past.ensures
