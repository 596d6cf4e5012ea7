use Rattle.std.proofs.Common.{◌↔◌, ◌⊎◌, ℕ, List, drop, map}
use Rattle.chart_links.specs.References.{IsCalled}
use Rattle.chart_links.specs.SummaryViews.{summary_view}
use Rattle.msc_base.specs.Lists.{IsAmong}
use Rattle.chart_links.proofs.tables.chart_names.Given as goal

abbrev pub invariant-loop-chart : goal.invariant-loop-chart
invariant-loop-chart l = (n : List ℕ) → (IsAmong l.names n ⊎ IsCalled (map summary_view (drop l.chart-index l.charts)) n) ↔ IsCalled (map summary_view l.charts) n
