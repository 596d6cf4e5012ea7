use Rattle.std.proofs.Common.{◌≡◌, ◌↔◌, ◌⊎◌, ◌+◌, ◌∷◌, ℕ, List, drop, map, subst, ap, ◌∙◌}
use Rattle.list_facts.proofs.Reading.{drop_read}
use Rattle.msc_base.specs.Lists.{IsAmong}
use Rattle.msc_base.specs.NameTables.{with_name}
use Rattle.chart_links.specs.References.{IsCalled}
use Rattle.chart_links.specs.SummaryViews.{summary_view}
use Rattle.chart_links.specs.declared.summary.ChartSummary.{ChartSummary}
use Rattle.chart_links.proofs.TableFacts.{chart_added}
use Rattle.chart_links.proofs.tables.chart_names.Goals as goal

pub loop-chart-preserved : goal.loop-chart-preserved
loop-chart-preserved c =
    let charts = c.args.charts.now in
    let i = c.loop-chart.chart-index in
    let chart = c.chart-item.result in
    let table = c.loop-chart.names in
    let All : List ℕ → Type 0 = IsCalled (map summary_view charts) in
    let now : (n : List ℕ) → (IsAmong table n ⊎ IsCalled (summary_view chart ∷ map summary_view (drop (i + 1) charts)) n) ↔ All n =
    subst (λ (l : List ChartSummary). (n : List ℕ) → (IsAmong table n ⊎ IsCalled (map summary_view l) n) ↔ All n) (drop_read charts i chart c.loop-chart-test.true c.chart-item.is) c.loop-chart.invariant in
    let made : c.add.new.self ≡ with_name table chart.name.now = c.in_ok-add.ensures.ok ∙ ap (with_name table) c.bytes.ensures.bytes in
    chart_added table c.add.new.self (summary_view chart) (map summary_view (drop (i + 1) charts)) All made now
