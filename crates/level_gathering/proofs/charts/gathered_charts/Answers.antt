use Rattle.std.proofs.Common.{◌≡◌, ◌∙◌, [], ℕ, List, ap, length, refl, subst, sym, ◌<◌, map}
use Rattle.std.proofs.lemmas.List.{length-map}
use Rattle.std.proofs.lemmas.Option.{slice_get_read}
use Rattle.level_gathering.specs.GatheredCharts.{AreGathered, no_chart}
use Rattle.level_gathering.specs.ReferenceViews.{charts_view, lists_view}
use Rattle.level_gathering.proofs.ChartSteps.{charts_more, formed_at, instances_at}
use Rattle.msc_instances.specs.Instances.{instances}
use Rattle.msc_meaning.specs.Tables.{Table}
use Rattle.msc_meaning.specs.Views.{body_view, table_view}
use Rattle.msc_tree.specs.Statements.{Reference}
use Rattle.msc_tree.specs.Views.{chart_view}
use Rattle.msc_tree.specs.declared.chart.RawChart.{RawChart}
use Rattle.level_gathering.proofs.charts.gathered_charts.Goals as goal

pub loop-number-init : goal.loop-number-init
loop-number-init c =
    subst (λ (t : Table). AreGathered [] t (charts_view c.in_ok-with_capacity-2.field-0.items)) (sym (ap table_view c.in_ok-with_capacity.ensures.items))
    (subst (λ (l : List (List (List Reference))). AreGathered [] [] l) (sym (ap charts_view c.in_ok-with_capacity-2.ensures.items)) no_chart)

pub gathered_chart-requires-clause-formed : goal.gathered_chart-requires-clause-formed
gathered_chart-requires-clause-formed c =
    let charts : List RawChart = c.args.charts.now in
    let k : ℕ = c.loop-number.number in
    formed_at charts k c.index-charts-number.result c.requires.formed (slice_get_read charts (length charts) k c.index-charts-number.result refl c.loop-number-test.true c.index-charts-number.is)

pub gathered_chart-requires-clause-names : goal.gathered_chart-requires-clause-names
gathered_chart-requires-clause-names c =
    let charts : List RawChart = c.args.charts.now in
    let lists : List (List (List ℕ)) = c.args.lists.now in
    let k : ℕ = c.loop-number.number in
    let count : length lists ≡ length charts = ap length c.requires.lists ∙ length-map (map chart_view charts) instances ∙ length-map charts chart_view in
    let low : k < length lists = subst (λ (n : ℕ). k < n) (sym count) c.loop-number-test.true in
    instances_at charts lists k c.index-charts-number.result c.index-lists-number.result c.requires.lists
    (slice_get_read charts (length charts) k c.index-charts-number.result refl c.loop-number-test.true c.index-charts-number.is)
    (slice_get_read lists (length lists) k c.index-lists-number.result refl low c.index-lists-number.is)

pub loop-number-preserved : goal.loop-number-preserved
loop-number-preserved c =
    charts_more c.args.charts.now c.loop-number.number c.index-charts-number.result (table_view c.loop-number.gathered.entries.items) (table_view c.add_chart.new.gathered.entries.items) (charts_view c.loop-number.gathered.references.items)
    (charts_view c.add_chart.new.gathered.references.items) (body_view c.in_ok-one.one.body) (lists_view c.in_ok-one.one.references) c.loop-number-test.true c.index-charts-number.is c.in_ok-add_chart.ensures.entries c.in_ok-add_chart.ensures.references
    c.loop-number.invariant c.in_ok-one.ensures
