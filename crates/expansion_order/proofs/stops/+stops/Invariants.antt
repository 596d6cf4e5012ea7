use Rattle.std.proofs.Common.{◌≡◌, ◌++◌, drop}
use Rattle.expansion_tree.specs.Views.{expansions_view}
use Rattle.expansion_order.specs.Stops.{all_stops}
use Rattle.expansion_order.proofs.stops.+stops.Given as goal

abbrev pub invariant-add_all-loop-part : goal.invariant-add_all-loop-part
invariant-add_all-loop-part l = l.list ++ all_stops (expansions_view (drop l.part-index l.parts)) ≡ l.initial.list ++ all_stops (expansions_view l.parts)
