use Rattle.std.proofs.Common.{◌≡◌, ◌++◌, drop, map}
use Rattle.chart_links.specs.Ranks.{rank_of}
use Rattle.chart_links.specs.Summaries.{Summary}
use Rattle.chart_links.specs.SummaryViews.{summary_view}
use Rattle.chart_links.proofs.ranks.chart_ranks.Given as goal

abbrev pub invariant-loop-chart : goal.invariant-loop-chart
invariant-loop-chart l =
    l.ranks.items ++ map (λ (c : Summary). rank_of l.tables.names l.tables.reach.items c.name) (map summary_view (drop l.chart-index l.charts))
    ≡ map (λ (c : Summary). rank_of l.tables.names l.tables.reach.items c.name) (map summary_view l.charts)
