use Rattle.std.proofs.Common.{map}
use Rattle.chart_extents.specs.Capped.{AreKeptUpTo}
use Rattle.chart_extents.specs.ExtentViews.{sized_view}
use Rattle.chart_extents.proofs.extents.add_rank.Given as goal

abbrev pub invariant-loop-index : goal.invariant-loop-index
invariant-loop-index l = AreKeptUpTo (map sized_view l.charts) l.ranks l.rank l.index l.values.items
