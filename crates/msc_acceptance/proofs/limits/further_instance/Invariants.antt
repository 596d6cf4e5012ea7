use Rattle.std.proofs.Common.{◌≡◌, [], drop, map}
use Rattle.msc_base.proofs.Narrowing.{Narrows}
use Rattle.msc_acceptance.specs.Rules.{HasFurther}
use Rattle.msc_tree.specs.Views.{chart_view}
use Rattle.msc_acceptance.proofs.limits.further_instance.Given as goal

abbrev pub invariant-loop-chart : goal.invariant-loop-chart
invariant-loop-chart l = record {
  number : l.number ≡ l.chart-index;
  narrows : Narrows (HasFurther [] (map chart_view l.charts)) (HasFurther l.seen (map chart_view (drop l.chart-index l.charts))) l.best;
}
