use Rattle.level_pieces.specs.PieceViews.{piece_view}
use Rattle.shared_parts.specs.Noting.{DiffersAt}
use Rattle.shared_parts.proofs.Walked.{IsWalked}
use Rattle.shared_parts.proofs.noting.note_differing.Given as goal

abbrev pub invariant-loop-part : goal.invariant-loop-part
invariant-loop-part l = IsWalked piece_view (DiffersAt (piece_view l.item.first)) l.item.others.items l.part-index l.initial.places l.places
