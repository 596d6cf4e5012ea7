use Rattle.std.proofs.Common.{◌≡◌, take, flat_map}
use Rattle.msc_meaning.specs.Views.{entry_view, table_view}
use Rattle.judge_report.specs.Lists.{chart_line}
use Rattle.judge_report.proofs.lists.chart_lines.Given as goal

abbrev pub invariant-loop-chart : goal.invariant-loop-chart
invariant-loop-chart l = l.bytes.items ≡ flat_map (λ x. chart_line (table_view l.doc) (entry_view x)) (take l.chart-index l.charts)
