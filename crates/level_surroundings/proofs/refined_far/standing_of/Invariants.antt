use Rattle.std.proofs.Common.{◌≤◌, drop, length}
use Rattle.msc_meaning.specs.Refinements.{all_matches}
use Rattle.level_surroundings.specs.FarEndViews.{HasStanding}
use Rattle.level_surroundings.specs.RefiningViews.{refinings_view}
use Rattle.level_surroundings.proofs.refined_far.standing_of.Given as goal

abbrev pub invariant-loop-index : goal.invariant-loop-index
invariant-loop-index l = record { within : l.index ≤ length l.refined; standing : HasStanding l.far (all_matches (refinings_view (drop l.index l.refined))) }

abbrev pub decreases-loop-index : goal.decreases-loop-index
decreases-loop-index l = l.index
