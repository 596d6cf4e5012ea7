-- The plain charts that those of the code stand for.
use Rattle.chart_extents.specs.declared.sized.SizedChart.{SizedChart}
use Rattle.chart_extents.specs.Extents.{Sized}
use Rattle.chart_links.specs.SummaryViews.{summary_view}

abbrev pub sized_view : SizedChart → Sized
sized_view s = record { summary = summary_view s.summary.now; place = s.place; own = s.own }
