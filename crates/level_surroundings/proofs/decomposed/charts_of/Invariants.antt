use Rattle.std.proofs.Common.{◌≤◌, drop, length}
use Rattle.level_surroundings.specs.DecomposedInstances.{HasCharts}
use Rattle.level_surroundings.proofs.decomposed.charts_of.Given as goal

abbrev pub invariant-loop-index : goal.invariant-loop-index
invariant-loop-index l = record { within : l.index ≤ length l.decls; charts : HasCharts l.charts (drop l.index l.decls) }

abbrev pub decreases-loop-index : goal.decreases-loop-index
decreases-loop-index l = l.index
