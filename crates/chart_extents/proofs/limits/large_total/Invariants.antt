use Rattle.std.proofs.Common.{◌≤◌, drop, map, None}
use Rattle.msc_base.proofs.Narrowing.{Narrows}
use Rattle.msc_base.specs.declared.limits.TheConstants.Limits.{TOTAL_SIZE}
use Rattle.chart_extents.specs.ExtentRules.{AreTooLarge, PassesTotal}
use Rattle.chart_extents.specs.ExtentViews.{sized_view}
use Rattle.chart_extents.proofs.limits.large_total.Given as goal

abbrev pub invariant-loop-index : goal.invariant-loop-index
invariant-loop-index l = record {
  small : l.sum ≤ TOTAL_SIZE;
  rest : Narrows (AreTooLarge (map sized_view l.charts)) (PassesTotal (map sized_view l.charts) l.sum (map sized_view (drop l.index l.charts))) None;
}
