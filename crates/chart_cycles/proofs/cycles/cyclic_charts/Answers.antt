use Rattle.std.proofs.Common.{rules, ◌≡◌, ◌+◌, Bool, false, List, length, map, replicate, take, sym, subst}
use Rattle.msc_base.specs.Lists.{AreDifferent}
use Rattle.msc_meaning.specs.Views.{entry_view, table_view}
use Rattle.chart_cycles.specs.Cycles.{TellCycles}
use Rattle.chart_cycles.proofs.Ordered.{chart_there, item_at, none_told, told_more, written_ordered}
use Rattle.chart_cycles.proofs.cycles.cyclic_charts.Goals as goal

pub is_cyclic_entry-requires-clause-there : goal.is_cyclic_entry-requires-clause-there
is_cyclic_entry-requires-clause-there c =
    chart_there c.args.charts.now c.loop-index.index c.index-charts-index.result (subst AreDifferent c.requires.named c.requires.different) (item_at c.args.charts.now c.loop-index.index c.index-charts-index.result c.loop-index-test.true c.index-charts-index.is)

pub returns-then-are_written : goal.returns-then-are_written
returns-then-are_written c =
    let table = table_view c.args.charts.now in
    let made : c.in_ok-told.told.items ≡ replicate (length c.args.charts.now) false = search rules in
    subst (λ (told : List Bool). TellCycles table c.args.depth (map entry_view c.args.charts.now) told) (sym made)
    (none_told table c.args.depth c.args.charts.now (written_ordered c.rising_charts_are_ranked.ensures table c.args.depth (c.are_written.ensures c.if-are_written.true) (map entry_view c.args.charts.now)))

pub loop-index-preserved : goal.loop-index-preserved
loop-index-preserved c =
    let table = table_view c.args.charts.now in
    subst (λ (told : List Bool). TellCycles table c.args.depth (map entry_view (take (c.loop-index.index + 1) c.args.charts.now)) told) (sym c.in_ok-push.ensures.items)
    (told_more table c.args.depth c.args.charts.now c.loop-index.index c.index-charts-index.result c.loop-index.told.items c.in_ok-cyclic.cyclic c.loop-index-test.true c.index-charts-index.is c.loop-index.invariant c.in_ok-cyclic.ensures.cyclic c.in_ok-cyclic.ensures.ordered)
