use Rattle.std.proofs.Common.{◌≤◌, drop, length}
use Rattle.msc_meaning.specs.FarEnds.{far_end}
use Rattle.msc_meaning.specs.Refinements.{inner_far}
use Rattle.refined_events.specs.MatchViews.{matches_view}
use Rattle.level_surroundings.specs.FarEndViews.{HasFar}
use Rattle.level_surroundings.specs.Givens.{around_view}
use Rattle.level_surroundings.proofs.refined_far.inner_ends.Given as goal

abbrev pub invariant-loop-index : goal.invariant-loop-index
invariant-loop-index l = record { within : l.index ≤ length l.matches; far : HasFar l.far (inner_far (far_end l.level.called.now.ends (around_view l.level.given)) (matches_view (drop l.index l.matches))) }

abbrev pub decreases-loop-index : goal.decreases-loop-index
decreases-loop-index l = l.index
