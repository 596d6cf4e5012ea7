use Rattle.std.proofs.Common.{drop, map}
use Rattle.chart_links.specs.SummaryViews.{summary_view}
use Rattle.msc_acceptance.specs.Linkless.{AreLinkless}
use Rattle.msc_acceptance.proofs.links.are_linkless.Given as goal

abbrev pub invariant-loop-summary : goal.invariant-loop-summary
invariant-loop-summary l = AreLinkless (map summary_view (drop l.summary-index l.summaries)) → AreLinkless (map summary_view l.summaries)
