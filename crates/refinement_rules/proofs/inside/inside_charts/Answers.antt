use Rattle.std.proofs.Common.{List, ℕ, subst}
use Rattle.msc_base.specs.Lists.{IsAmong}
use Rattle.msc_meaning.specs.Views.{entry_view, table_view}
use Rattle.msc_meaning.specs.declared.body.ChartEntry as code
use Rattle.refinement_rules.specs.Judging.{EntryInside}
use Rattle.refinement_rules.proofs.Walked.{grown_none, grown_step, grown_whole}
use Rattle.refinement_rules.proofs.inside.inside_charts.Goals as goal

pub loop-chart-init : goal.loop-chart-init
loop-chart-init c = grown_none (λ (x : code.ChartEntry). EntryInside (table_view c.args.table.charts.now) c.args.tables.now.names c.args.tables.now.reach.items (entry_view x)) (IsAmong c.new-inside.result) c.args.table.charts.now (λ n h. subst (λ (l : List (List ℕ)). IsAmong l n) c.new-inside.ensures h)

pub loop-chart-preserved : goal.loop-chart-preserved
loop-chart-preserved c =
    grown_step (λ (x : code.ChartEntry). EntryInside (table_view c.args.table.charts.now) c.args.tables.now.names c.args.tables.now.reach.items (entry_view x)) (λ n. ⊥) (IsAmong c.loop-chart.inside) (IsAmong c.add_inside.new.inside) c.args.table.charts.now c.loop-chart.chart-index c.chart-item.result c.loop-chart-test.true c.chart-item.is
    c.in_ok-add_inside.ensures c.loop-chart.invariant

pub returns : goal.returns
returns c = grown_whole (λ (x : code.ChartEntry). EntryInside (table_view c.args.table.charts.now) c.args.tables.now.names c.args.tables.now.reach.items (entry_view x)) (λ n. ⊥) (IsAmong c.loop-chart.inside) c.args.table.charts.now c.loop-chart.chart-index (λ n h. h) c.loop-chart-test.false c.loop-chart.invariant
