use Rattle.std.proofs.Common.{◌≡◌, ◌<◌, List, get_or, length, not, subst}
use Rattle.level_pieces.specs.PieceViews.{piece_view}
use Rattle.level_pieces.specs.declared.pieces.Piece as code
use Rattle.msc_meaning.specs.Pieces.{Piece}
use Rattle.shared_parts.specs.Noting.{DiffersAt}
use Rattle.shared_parts.specs.PartRules.{AreAlike}
use Rattle.shared_parts.proofs.Walked.{noted_if, not_tells, walked_more}
use Rattle.shared_parts.proofs.noting.note_differing.Goals as goal

pub loop-part-preserved : goal.loop-part-preserved
loop-part-preserved c =
    let start : Piece = piece_view c.args.item.now.first in
    let part : Piece = piece_view c.part-item.result in
    walked_more piece_view (DiffersAt start) c.args.item.now.others.items c.loop-part.part-index c.part-item.result c.args.places.now c.loop-part.places c.note_if.new.places
    (subst (λ (ps : List code.Piece). c.loop-part.part-index < length ps) c.as_slice-part-items.ensures.value c.loop-part-test.true)
    (subst (λ (ps : List code.Piece). c.part-item.result ≡ get_or ps c.loop-part.part-index c.part-item.result) c.as_slice-part-items.ensures.value c.part-item.is)
    (noted_if (AreAlike start.form part.form → ⊥) (not c.are_alike.result) part.place c.loop-part.places c.note_if.new.places (not_tells c.are_alike.result c.are_alike.ensures) c.in_ok-note_if.ensures)
    c.loop-part.invariant
