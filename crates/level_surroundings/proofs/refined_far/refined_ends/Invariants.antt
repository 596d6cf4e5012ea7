use Rattle.std.proofs.Common.{◌≤◌, drop, length}
use Rattle.msc_meaning.specs.Refinements.{all_matches, refined_far}
use Rattle.level_surroundings.specs.FarEndViews.{HasFar}
use Rattle.level_surroundings.specs.RefiningViews.{refinings_view}
use Rattle.level_surroundings.proofs.refined_far.refined_ends.Given as goal

abbrev pub invariant-loop-index : goal.invariant-loop-index
invariant-loop-index l = record { within : l.index ≤ length l.pairs; far : HasFar l.far (refined_far (drop l.index l.pairs) (all_matches (refinings_view l.refined))) }

abbrev pub decreases-loop-index : goal.decreases-loop-index
decreases-loop-index l = l.index
