-- The plain summaries that those of the code stand for.
use Rattle.chart_links.specs.declared.summary.ChartSummary.{ChartSummary}
use Rattle.chart_links.specs.Summaries.{Summary}

abbrev pub summary_view : ChartSummary → Summary
summary_view s = record { name = s.name.now; instances = s.instances.now; links = s.links }
