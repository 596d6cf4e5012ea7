use Rattle.std.proofs.Common.{[], drop, map}
use Rattle.msc_base.proofs.Narrowing.{Narrows}
use Rattle.msc_acceptance.specs.Rules.{IsNamedAgain}
use Rattle.msc_tree.specs.Views.{chart_view}
use Rattle.msc_acceptance.proofs.names.second_chart.Given as goal

abbrev pub invariant-loop-chart : goal.invariant-loop-chart
invariant-loop-chart l = Narrows (IsNamedAgain [] (map chart_view l.charts)) (IsNamedAgain l.seen (map chart_view (drop l.chart-index l.charts))) l.best
