use Rattle.std.proofs.Common.{◌≡◌, ◌++◌, drop, map}
use Rattle.level_pieces.specs.ItemEdges.{own_edges}
use Rattle.level_pieces.specs.PieceViews.{part_view}
use Rattle.level_pieces.proofs.columns.push_parts.Given as goal

abbrev pub invariant-loop-part : goal.invariant-loop-part
invariant-loop-part l = l.edges.items ++ own_edges l.table (map part_view (drop l.part-index l.parts)) ≡ l.initial.edges.items ++ own_edges l.table (map part_view l.parts)
