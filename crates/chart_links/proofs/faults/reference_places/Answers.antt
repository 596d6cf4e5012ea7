use Rattle.std.proofs.Common.{List, ℕ, map, subst}
use Rattle.msc_base.specs.Places.{IsLeast}
use Rattle.chart_links.specs.FaultPlaces.{SoFarOr}
use Rattle.chart_links.specs.LinkViews.{link_view}
use Rattle.chart_links.specs.Links as plain
use Rattle.chart_links.specs.References.{AtLink, AtLinks}
use Rattle.chart_links.specs.SummaryViews.{summary_view}
use Rattle.chart_links.specs.Tables.{MissesBy, RecursBy, UncoversBy}
use Rattle.chart_links.proofs.FaultFacts.{chart_step, charts_end, missing_by, missing_is, recursive_by, recursive_is, uncovered_by, uncovered_is}
use Rattle.chart_links.proofs.faults.reference_places.Goals as goal

pub loop-chart-preserved : goal.loop-chart-preserved
loop-chart-preserved c =
    let t = c.args.tables.now in
    let list = c.args.charts.now in
    let charts = map summary_view list in
    let at = c.loop-chart in
    let chart = c.chart-item.result in
    let e = c.link_places-places.ensures in
    let links = c.as_slice-in-loop-chart.ensures in
    let names = c.as_slice-instances.ensures in
    let missing = missing_by t.names in
    let recursive = recursive_by t.names t.reach.items in
    let uncovered = uncovered_by t.names t.known t.expanded.items in
    record {
      missing = chart_step missing (AtLinks missing charts) list at.chart-index chart at.places.missing c.link_places-places.result.missing c.loop-chart-test.true c.chart-item.is
          (subst (λ (l : List plain.Link). IsLeast (SoFarOr at.places.missing (AtLink (MissesBy t.names) l)) c.link_places-places.result.missing) links e.missing) at.invariant.missing;
      recursive = chart_step recursive (AtLinks recursive charts) list at.chart-index chart at.places.recursive c.link_places-places.result.recursive c.loop-chart-test.true c.chart-item.is
          (subst (λ (l : List plain.Link). IsLeast (SoFarOr at.places.recursive (AtLink (RecursBy t.names t.reach.items chart.name.now) l)) c.link_places-places.result.recursive) links e.recursive) at.invariant.recursive;
      uncovered = chart_step uncovered (AtLinks uncovered charts) list at.chart-index chart at.places.uncovered c.link_places-places.result.uncovered c.loop-chart-test.true c.chart-item.is
          (subst (λ (l : List plain.Link). IsLeast (SoFarOr at.places.uncovered (AtLink (UncoversBy t.names t.known t.expanded.items chart.instances.now) l)) c.link_places-places.result.uncovered) links
          (subst (λ (n : List (List ℕ)). IsLeast (SoFarOr at.places.uncovered (AtLink (UncoversBy t.names t.known t.expanded.items n) (map link_view c.as_slice-in-loop-chart.result.now))) c.link_places-places.result.uncovered) names e.uncovered)) at.invariant.uncovered;
    }

pub returns-clause-missing : goal.returns-clause-missing
returns-clause-missing c =
    let t = c.args.tables.now in
    let charts = map summary_view c.args.charts.now in
    let holds = missing_by t.names in
    missing_is charts t.names t.known t.reach.items t.expanded.items c.requires c.loop-chart.places.missing
    (charts_end holds (AtLinks holds charts) c.args.charts.now c.loop-chart.chart-index c.loop-chart.places.missing c.loop-chart-test.false c.loop-chart.invariant.missing)

pub returns-clause-recursive : goal.returns-clause-recursive
returns-clause-recursive c =
    let t = c.args.tables.now in
    let charts = map summary_view c.args.charts.now in
    let holds = recursive_by t.names t.reach.items in
    recursive_is charts t.names t.known t.reach.items t.expanded.items c.requires c.loop-chart.places.recursive
    (charts_end holds (AtLinks holds charts) c.args.charts.now c.loop-chart.chart-index c.loop-chart.places.recursive c.loop-chart-test.false c.loop-chart.invariant.recursive)

pub returns-clause-uncovered : goal.returns-clause-uncovered
returns-clause-uncovered c =
    let t = c.args.tables.now in
    let charts = map summary_view c.args.charts.now in
    let holds = uncovered_by t.names t.known t.expanded.items in
    uncovered_is charts t.names t.known t.reach.items t.expanded.items c.requires c.loop-chart.places.uncovered
    (charts_end holds (AtLinks holds charts) c.args.charts.now c.loop-chart.chart-index c.loop-chart.places.uncovered c.loop-chart-test.false c.loop-chart.invariant.uncovered)
