use Rattle.std.proofs.Common.{◌≡◌, ◌||◌, drop}
use Rattle.msc_meaning.specs.Views.{table_view}
use Rattle.refinement_rules.specs.Judging.{some_chart_refined}
use Rattle.refinement_rules.proofs.refined.some_chart_refined.Given as goal

abbrev pub invariant-loop-chart : goal.invariant-loop-chart
invariant-loop-chart l = (l.one || some_chart_refined (table_view (drop l.chart-index l.charts))) ≡ some_chart_refined (table_view l.charts)
