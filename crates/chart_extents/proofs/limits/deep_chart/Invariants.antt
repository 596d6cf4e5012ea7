use Rattle.std.proofs.Common.{◌<◌, drop, map}
use Rattle.msc_base.proofs.Narrowing.{Narrows}
use Rattle.msc_base.specs.declared.limits.TheConstants.Limits.{EXPANDED_NESTING}
use Rattle.chart_extents.specs.ExtentRules.{IsTooDeep, OneComesTo}
use Rattle.chart_extents.specs.ExtentViews.{sized_view}
use Rattle.chart_extents.proofs.limits.deep_chart.Given as goal

abbrev pub invariant-loop-index : goal.invariant-loop-index
invariant-loop-index l = Narrows (IsTooDeep (map sized_view l.charts)) (OneComesTo (λ e. EXPANDED_NESTING < e.nesting) (map sized_view l.charts) (map sized_view (drop l.index l.charts))) l.best
