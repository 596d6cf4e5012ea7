use Rattle.std.proofs.Common.{◌≡◌, List, ℕ, sym, subst, take, arith}
use Rattle.std.proofs.lemmas.List.{take_all}
use Rattle.msc_meaning.specs.Views.{table_view}
use Rattle.msc_meaning.specs.declared.body.ChartEntry.{ChartEntry}
use Rattle.gate_ends.specs.FoundEnds.{AreAll, GoesTo}
use Rattle.gate_tables.specs.ChartTables.{HasFacts}
use Rattle.gate_tables.proofs.ChartTables.{all_found, all_stay, chart_names, chart_one, charts_more}
use Rattle.gate_tables.proofs.tables.gate_tables.Goals as goal

pub add_chart-requires-clause-deep : goal.add_chart-requires-clause-deep
add_chart-requires-clause-deep c =
    let table = table_view c.args.charts.now in
    subst (λ (n : List ℕ). GoesTo table c.args.depth n) (sym c.bytes.ensures.bytes)
    (chart_one (GoesTo table c.args.depth) c.args.charts.now c.loop-chart.chart-index c.chart-item.result c.loop-chart-test.true c.chart-item.is
    (subst (λ (ns : List (List ℕ)). AreAll (GoesTo table c.args.depth) ns) c.requires.named c.requires.deep))

pub loop-chart-preserved : goal.loop-chart-preserved
loop-chart-preserved c =
    let table = table_view c.args.charts.now in
    let known = c.add_chart.new.known in
    let i = c.loop-chart.chart-index in
    record {
      right = c.in_ok-add_chart.ensures.grows.right;
      has = charts_more (HasFacts known) c.args.charts.now i c.chart-item.result c.loop-chart-test.true c.chart-item.is (all_stay table c.args.depth c.loop-chart.known known (chart_names (take i c.args.charts.now)) c.in_ok-add_chart.ensures.grows c.loop-chart.invariant.has)
          (subst (HasFacts known) c.bytes.ensures.bytes c.in_ok-add_chart.ensures.has);
    }

pub returns : goal.returns
returns c =
    let all : take c.loop-chart.chart-index c.args.charts.now ≡ c.args.charts.now = take_all c.loop-chart.chart-index c.args.charts.now (omega arith) in
    record { found = all_found c.args.charts.now c.args.depth c.loop-chart.known c.loop-chart.invariant.right (subst (λ (cs : List ChartEntry). AreAll (HasFacts c.loop-chart.known) (chart_names cs)) all c.loop-chart.invariant.has) }
