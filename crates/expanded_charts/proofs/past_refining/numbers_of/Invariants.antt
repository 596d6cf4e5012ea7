use Rattle.std.proofs.Common.{◌≤◌, drop, length}
use Rattle.refined_events.specs.MatchViews.{matches_view}
use Rattle.expanded_charts.specs.LeftItems.{StandsFor}
use Rattle.expanded_charts.proofs.past_refining.numbers_of.Given as goal

abbrev pub invariant-loop-index : goal.invariant-loop-index
invariant-loop-index l = record { within : l.index ≤ length l.matches; stands : StandsFor l.numbers (matches_view (drop l.index l.matches)) }

abbrev pub decreases-loop-index : goal.decreases-loop-index
decreases-loop-index l = l.index
