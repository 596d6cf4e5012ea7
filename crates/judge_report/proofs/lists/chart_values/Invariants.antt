use Rattle.std.proofs.Common.{◌≡◌, take, map, true}
use Rattle.std.specs.List.{list_all}
use Rattle.serde_json.specs.View.{view}
use Rattle.msc_meaning.specs.Views.{entry_view, table_view}
use Rattle.msc_meaning.specs.declared.body.ChartEntry.{ChartEntry}
use Rattle.judge_report.specs.Lists.{chart_data}
use Rattle.judge_report.specs.Texts.{needs_no_escape}
use Rattle.judge_report.proofs.lists.chart_values.Given as goal

abbrev pub invariant-loop-chart : goal.invariant-loop-chart
invariant-loop-chart l = record {
  values : map view l.values.items ≡ map (λ x. chart_data (table_view l.doc) (entry_view x)) (take l.chart-index l.charts);
  plain : list_all (λ (x : ChartEntry). needs_no_escape x.name) (take l.chart-index l.charts) ≡ true;
}
