use Rattle.std.specs.BTreeMap.{get}
use Rattle.std.specs.Ordering.{nat_cmp}
use Rattle.expanded_charts.proofs.TieFacts.{found_more}
use Rattle.expanded_charts.proofs.ties.found_pairs_of.Goals as goal

pub loop-index-preserved : goal.loop-index-preserved
loop-index-preserved c = found_more (get nat_cmp c.args.by_event.now) c.args.ties.now c.loop-index.index c.at.result.now c.loop-index.list c.add_found.new.list c.at.ensures c.loop-index.invariant c.in_ok-add_found.ensures
