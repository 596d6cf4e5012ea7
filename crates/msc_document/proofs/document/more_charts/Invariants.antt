use Rattle.std.proofs.Common.{◌≡◌, map, length, ◌-◌}
use Rattle.msc_tree.specs.Views.{chart_view}
use Rattle.msc_document.specs.ChartReaders.{more_charts_at}
use Rattle.msc_document.proofs.document.more_charts.Given as goal

abbrev pub invariant-loop-k : goal.invariant-loop-k
invariant-loop-k l = more_charts_at l.levels (map chart_view l.charts.items) (l._k-end - l._k) l.rest ≡ more_charts_at l.fn.levels (map chart_view l.fn.prefix.items) (length l.fn.tokens) l.fn.tokens
