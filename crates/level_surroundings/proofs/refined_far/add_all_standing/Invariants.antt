use Rattle.std.proofs.Common.{◌≤◌, ◌++◌, List, drop, length}
use Rattle.msc_meaning.specs.Refinements.{Match}
use Rattle.refined_events.specs.MatchViews.{matches_view}
use Rattle.level_surroundings.specs.FarEndViews.{HasStanding}
use Rattle.level_surroundings.proofs.refined_far.add_all_standing.Given as goal

abbrev pub invariant-loop-index : goal.invariant-loop-index
invariant-loop-index l = record { within : l.index ≤ length l.matches; standing : (others : List Match) → HasStanding l.fn.far others → HasStanding l.far (matches_view (drop l.index l.matches) ++ others) }

abbrev pub decreases-loop-index : goal.decreases-loop-index
decreases-loop-index l = l.index
