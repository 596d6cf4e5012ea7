use Rattle.level_pieces.specs.PieceViews.{parts_view, piece_view}
use Rattle.shared_parts.specs.Noting.{BreaksAt}
use Rattle.shared_parts.specs.declared.faults.PartRule.TheVariants.{NotShared}
use Rattle.shared_parts.proofs.Walked.{IsWalked}
use Rattle.shared_parts.proofs.noting.note_unshared.Given as goal

abbrev pub invariant-loop-part : goal.invariant-loop-part
invariant-loop-part l = IsWalked piece_view (BreaksAt NotShared l.level (parts_view l.item)) l.item.others.items l.part-index l.initial.places l.places
