use Rattle.std.proofs.Common.{◌≡◌, ◌++◌, drop, map}
use Rattle.level_weaving.specs.LevelNodes.{ordered_nodes}
use Rattle.level_pieces.specs.ItemNumbers.{first_parts}
use Rattle.level_pieces.specs.PieceViews.{parts_view}
use Rattle.level_weaving.proofs.events.ordered_events.Given as goal

abbrev pub invariant-loop-number : goal.invariant-loop-number
invariant-loop-number l = l.events ++ ordered_nodes (first_parts (map parts_view l.items)) (drop l.number-index l.order) ≡ ordered_nodes (first_parts (map parts_view l.items)) l.order
