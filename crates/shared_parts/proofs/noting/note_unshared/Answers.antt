use Rattle.std.proofs.Common.{◌≡◌, ◌<◌, ◌≤◌, inl, inr, refl, List, ℕ, ◌∷◌, get_or, length, map, subst}
use Rattle.level_pieces.specs.PieceViews.{piece_view}
use Rattle.level_pieces.specs.declared.pieces.Piece as code
use Rattle.msc_meaning.specs.LevelItems.{name_of}
use Rattle.msc_meaning.specs.Pieces.{Piece}
use Rattle.shared_parts.specs.Noting.{BreaksAt, OneHolds}
use Rattle.shared_parts.specs.PartRules.{IsUnshared}
use Rattle.shared_parts.specs.Sharing.{is_unshared_in}
use Rattle.shared_parts.specs.declared.faults.PartRule.TheVariants.{NotShared}
use Rattle.shared_parts.specs.declared.sharing.Sharing.{Sharing}
use Rattle.shared_parts.proofs.SharingLaws.{unshared_is}
use Rattle.shared_parts.proofs.Walked.{map_among, noted_both, noted_if, told, walked_all, walked_more}
use Rattle.shared_parts.proofs.noting.note_unshared.Goals as goal

pub loop-part-preserved : goal.loop-part-preserved
loop-part-preserved c =
    let level : List (List ℕ) = c.args.level.now in
    let start : Piece = piece_view c.args.item.now.first in
    let held : List code.Piece = c.args.item.now.others.items in
    let s : Sharing = c.in_ok-sharing.sharing in
    let part : Piece = piece_view c.part-item.result in
    let low : c.loop-part.part-index < length held = subst (λ (ps : List code.Piece). c.loop-part.part-index < length ps) c.as_slice-part-items.ensures.value c.loop-part-test.true in
    let is : c.part-item.result ≡ get_or held c.loop-part.part-index c.part-item.result =
    subst (λ (ps : List code.Piece). c.part-item.result ≡ get_or ps c.loop-part.part-index c.part-item.result) c.as_slice-part-items.ensures.value c.part-item.is in
    walked_more piece_view (BreaksAt NotShared level (start ∷ map piece_view held)) held c.loop-part.part-index c.part-item.result c.note_if.new.places c.loop-part.places c.note_if-in-loop-part.new.places low is
    (noted_if (IsUnshared level (start ∷ map piece_view held) part) c.is_unshared-in-loop-part.result part.place c.loop-part.places c.note_if-in-loop-part.new.places
    (told c.is_unshared-in-loop-part.result (is_unshared_in s.all_break s.several s.names part.column (name_of part.form)) c.is_unshared-in-loop-part.ensures
    (unshared_is level c.args.cover.now start (map piece_view held) s c.requires c.in_ok-sharing.ensures part (inr (map_among piece_view held c.loop-part.part-index c.part-item.result low is))))
    c.in_ok-note_if-2.ensures)
    c.loop-part.invariant

pub returns : goal.returns
returns c =
    let level : List (List ℕ) = c.args.level.now in
    let start : Piece = piece_view c.args.item.now.first in
    let held : List code.Piece = c.args.item.now.others.items in
    let s : Sharing = c.in_ok-sharing.sharing in
    let high : length held ≤ c.loop-part.part-index = subst (λ (ps : List code.Piece). length ps ≤ c.loop-part.part-index) c.as_slice-part-items.ensures.value c.loop-part-test.false in
    noted_both (BreaksAt NotShared level (start ∷ map piece_view held) start) (OneHolds (BreaksAt NotShared level (start ∷ map piece_view held)) (map piece_view held)) c.args.places.now c.note_if.new.places c.loop-part.places
    (noted_if (IsUnshared level (start ∷ map piece_view held) start) c.is_unshared.result start.place c.args.places.now c.note_if.new.places
    (told c.is_unshared.result (is_unshared_in s.all_break s.several s.names start.column (name_of start.form)) c.is_unshared.ensures
    (unshared_is level c.args.cover.now start (map piece_view held) s c.requires c.in_ok-sharing.ensures start (inl refl)))
    c.in_ok-note_if.ensures)
    (walked_all piece_view (BreaksAt NotShared level (start ∷ map piece_view held)) held c.loop-part.part-index c.note_if.new.places c.loop-part.places high c.loop-part.invariant)
