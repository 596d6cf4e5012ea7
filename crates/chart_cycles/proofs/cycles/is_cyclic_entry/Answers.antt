use Rattle.msc_meaning.specs.Views.{entry_view, table_view}
use Rattle.chart_cycles.proofs.Ordered.{alone_ordered}
use Rattle.chart_cycles.proofs.cycles.is_cyclic_entry.Goals as goal

pub returns-then-is_alone-clause-ordered : goal.returns-then-is_alone-clause-ordered
returns-then-is_alone-clause-ordered c = λ e.
    alone_ordered c.rising_charts_are_ranked.ensures (table_view c.args.charts.now) c.args.depth c.args.chart.now.name (entry_view c.args.chart.now) c.requires.there (c.is_alone.ensures.alone c.if-is_alone.true) (c.is_alone.ensures.written c.if-is_alone.true)
