-- Where walks begin and lead, as walks are defined, and their order.
use Rattle.std.specs.Ordering.{nat_cmp}
use Rattle.std.specs.Prelude.{ℕ, ◌<◌}
use Rattle.std.specs.declared.cmp.Ordering.{Ordering}
use Rattle.std.specs.declared.cmp.Ordering.TheVariants.{Less, Equal, Greater}
use Rattle.hmsc_graph.specs.Graphs.{Spot as SpotOf, Start, At, Goal as GoalOf, To, End as ToEnd, Any as ToAny}
use Rattle.hmsc_graph.specs.declared.spot.Spot.{Spot}
use Rattle.hmsc_graph.specs.declared.spot.Spot.TheVariants.{Start as StartSpot, Node as NodeSpot}
use Rattle.hmsc_graph.specs.declared.spot.Goal.{Goal}
use Rattle.hmsc_graph.specs.declared.spot.Goal.TheVariants.{Node as NodeGoal, End as EndGoal, Any as AnyGoal}

-- the spot, as walks begin at it
abbrev pub spot_of : Spot → SpotOf
spot_of StartSpot = Start
spot_of (NodeSpot node) = At node

-- the goal, as walks lead to it
abbrev pub goal_of : Goal → GoalOf
goal_of (NodeGoal node) = To node
goal_of EndGoal = ToEnd
goal_of AnyGoal = ToAny

-- its node, if it has one, is one of so many
abbrev pub IsSpotBelow : ℕ → Spot → Type 0
IsSpotBelow size StartSpot = Unit {0}
IsSpotBelow size (NodeSpot node) = node < size

abbrev pub IsGoalBelow : ℕ → Goal → Type 0
IsGoalBelow size (NodeGoal node) = node < size
IsGoalBelow size EndGoal = Unit {0}
IsGoalBelow size AnyGoal = Unit {0}

-- the start first
abbrev pub spot_cmp : SpotOf → SpotOf → Ordering
spot_cmp Start Start = Equal
spot_cmp Start (At n) = Less
spot_cmp (At m) Start = Greater
spot_cmp (At m) (At n) = nat_cmp m n

-- nodes first, then an end, then anywhere
abbrev pub goal_cmp : GoalOf → GoalOf → Ordering
goal_cmp (To m) (To n) = nat_cmp m n
goal_cmp (To m) ToEnd = Less
goal_cmp (To m) ToAny = Less
goal_cmp ToEnd (To n) = Greater
goal_cmp ToEnd ToEnd = Equal
goal_cmp ToEnd ToAny = Less
goal_cmp ToAny (To n) = Greater
goal_cmp ToAny ToEnd = Greater
goal_cmp ToAny ToAny = Equal
