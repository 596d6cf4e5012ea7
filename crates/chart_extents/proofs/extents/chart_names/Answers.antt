use Rattle.std.proofs.Common.{◌≡◌, List, [], drop, fold, map, sym, ap, ◌∙◌, arith}
use Rattle.list_facts.proofs.Reading.{drop_end}
use Rattle.msc_base.proofs.NameFacts.{different_kept}
use Rattle.msc_base.specs.NameTables.{with_name}
use Rattle.chart_extents.specs.Capped.{names_of}
use Rattle.chart_extents.specs.ExtentViews.{sized_view}
use Rattle.chart_extents.specs.declared.sized.SizedChart.{SizedChart}
use Rattle.chart_extents.proofs.extents.chart_names.Goals as goal

pub returns : goal.returns
returns c =
    let list = c.args.charts.now in
    let none : drop c.loop-chart.chart-index list ≡ [] = drop_end list c.loop-chart.chart-index (λ lt. omega (arith, lt, c.loop-chart-test.false)) in
    sym (ap (λ (l : List SizedChart). fold with_name c.loop-chart.names (names_of (map sized_view l))) none) ∙ c.loop-chart.invariant ∙ different_kept (names_of (map sized_view list)) c.requires
