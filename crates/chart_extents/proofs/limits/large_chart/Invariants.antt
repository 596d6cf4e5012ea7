use Rattle.std.proofs.Common.{◌<◌, drop, map}
use Rattle.msc_base.proofs.Narrowing.{Narrows}
use Rattle.msc_base.specs.declared.limits.TheConstants.Limits.{EXPANDED_SIZE}
use Rattle.chart_extents.specs.ExtentRules.{IsTooLarge, OneComesTo}
use Rattle.chart_extents.specs.ExtentViews.{sized_view}
use Rattle.chart_extents.proofs.limits.large_chart.Given as goal

abbrev pub invariant-loop-index : goal.invariant-loop-index
invariant-loop-index l = Narrows (IsTooLarge (map sized_view l.charts)) (OneComesTo (λ e. EXPANDED_SIZE < e.size) (map sized_view l.charts) (map sized_view (drop l.index l.charts))) l.best
