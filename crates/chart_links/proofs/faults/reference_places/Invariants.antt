use Rattle.std.proofs.Common.{drop, map}
use Rattle.msc_base.proofs.Narrowing.{Narrows}
use Rattle.chart_links.specs.References.{AtLinks}
use Rattle.chart_links.specs.SummaryViews.{summary_view}
use Rattle.chart_links.proofs.FaultFacts.{missing_by, recursive_by, uncovered_by}
use Rattle.chart_links.proofs.faults.reference_places.Given as goal

abbrev pub invariant-loop-chart : goal.invariant-loop-chart
invariant-loop-chart l = record {
  missing : Narrows (AtLinks (missing_by l.tables.names) (map summary_view l.charts)) (AtLinks (missing_by l.tables.names) (map summary_view (drop l.chart-index l.charts))) l.places.missing;
  recursive : Narrows (AtLinks (recursive_by l.tables.names l.tables.reach.items) (map summary_view l.charts)) (AtLinks (recursive_by l.tables.names l.tables.reach.items) (map summary_view (drop l.chart-index l.charts))) l.places.recursive;
  uncovered : Narrows (AtLinks (uncovered_by l.tables.names l.tables.known l.tables.expanded.items) (map summary_view l.charts))
      (AtLinks (uncovered_by l.tables.names l.tables.known l.tables.expanded.items) (map summary_view (drop l.chart-index l.charts))) l.places.uncovered;
}
