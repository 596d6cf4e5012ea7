use Rattle.std.proofs.Common.{map}
use Rattle.chart_extents.specs.Capped.{AreKeptUpTo}
use Rattle.chart_extents.specs.ExtentViews.{sized_view}
use Rattle.chart_extents.proofs.extents.chart_extents.Given as goal

abbrev pub invariant-loop-rank : goal.invariant-loop-rank
invariant-loop-rank l = AreKeptUpTo (map sized_view l.charts) l.ranks l.rank 0 l.values.items
