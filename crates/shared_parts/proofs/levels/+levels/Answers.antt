use Rattle.std.proofs.Common.{◌≡◌, ◌<◌, ◌≤◌, ◌∷◌, ◌∙◌, ℕ, List, Vec, Some, ap, arith, length, map, refl, slice_get, subst, sym}
use Rattle.std.specs.Global.{Global}
use Rattle.std.proofs.lemmas.Option.{slice_get_read}
use Rattle.std.proofs.lemmas.Result.{on_ok_weaker}
use Rattle.msc_meaning.specs.LevelItems.{level_items}
use Rattle.msc_meaning.specs.Pieces.{Piece}
use Rattle.level_pieces.specs.ItemOperands.{AreOperands, operand_lists, pieces_view}
use Rattle.level_pieces.specs.PieceViews.{parts_view, piece_view}
use Rattle.level_pieces.specs.declared.pieces.LevelItem as code_item
use Rattle.level_pieces.specs.declared.pieces.Piece as code
use Rattle.level_pieces.proofs.ReadLaws.{columns_within}
use Rattle.level_pieces.proofs.Sizes.{level_size, lists_size, lists_smaller, one_size, pieces_size}
use Rattle.level_pieces.proofs.Walks.{map_at}
use Rattle.shared_parts.specs.Noting.{AreAllJoined, AreNoted, ItemBreaks, noted}
use Rattle.shared_parts.specs.PartRules.{BreaksPartRule}
use Rattle.shared_parts.proofs.LevelLaws.{event_keeps, item_noted, joined_at, level_joined, level_noted}
use Rattle.shared_parts.proofs.Walked.{noted_none, walked_all, walked_more}
use Rattle.shared_parts.proofs.levels.+levels.Goals as goal

-- ---- a level

pub note_level-note_items-requires : goal.note_level-note_items-requires
note_level-note_items-requires t c =
    let ps : List Piece = map piece_view c.args.pieces.now in
    let list : map parts_view c.as_slice.result.now ≡ level_items ps = ap (map parts_view) c.as_slice.ensures.value ∙ c.in_ok-items.ensures.items in
    let low : lists_size (level_items ps) ≤ pieces_size ps = level_size ps in
    (omega (arith, c.decreases, low, ap lists_size list), subst (λ (l : List (List Piece)). AreAllJoined l) (sym list) (level_joined ps))

pub note_level-returns : goal.note_level-returns
note_level-returns t c =
    let ps : List Piece = map piece_view c.args.pieces.now in
    let list : map parts_view c.as_slice.result.now ≡ level_items ps = ap (map parts_view) c.as_slice.ensures.value ∙ c.in_ok-items.ensures.items in
    on_ok_weaker c.note_items.result (λ h rule. level_noted rule c.args.cover.now ps (map parts_view c.as_slice.result.now) (noted rule c.args.places.now) (noted rule c.note_items.new.places) list (h rule)) c.note_items.ensures

-- ---- items

pub note_items-note_item-requires : goal.note_items-note_item-requires
note_items-note_item-requires t c =
    let held : List code_item.LevelItem = c.args.items.now in
    let at : slice_get held c.loop-item.item-index ≡ Some c.item-item.result = slice_get_read held (length held) c.loop-item.item-index c.item-item.result refl c.loop-item-test.true c.item-item.is in
    let here : slice_get (map parts_view held) c.loop-item.item-index ≡ Some (parts_view c.item-item.result) = map_at parts_view held c.loop-item.item-index c.item-item.result at in (
      omega (arith, c.decreases, one_size (map parts_view held) c.loop-item.item-index (parts_view c.item-item.result) here),
      joined_at (map parts_view held) c.loop-item.item-index (parts_view c.item-item.result) c.requires here,
    )

pub note_items-loop-item-preserved : goal.note_items-loop-item-preserved
note_items-loop-item-preserved t c = λ rule.
    walked_more parts_view (ItemBreaks rule c.args.level.now) c.args.items.now c.loop-item.item-index c.item-item.result (noted rule c.args.places.now) (noted rule c.loop-item.places) (noted rule c.note_item.new.places)
    c.loop-item-test.true c.item-item.is (c.in_ok-note_item.ensures rule) (c.loop-item.invariant rule)

pub note_items-returns : goal.note_items-returns
note_items-returns t c = λ rule.
    walked_all parts_view (ItemBreaks rule c.args.level.now) c.args.items.now c.loop-item.item-index (noted rule c.args.places.now) (noted rule c.loop-item.places) c.loop-item-test.false (c.loop-item.invariant rule)

-- ---- an item

pub note_item-item_operands-requires : goal.note_item-item_operands-requires
note_item-item_operands-requires t c = (c.in_ok-names.ensures.outer, columns_within c.in_ok-names.names.outer c.args.item.now.others.items c.requires.1)

pub note_item-note_levels-requires : goal.note_item-note_levels-requires
note_item-note_levels-requires t c =
    let p : Piece = piece_view c.args.item.now.first in
    let others : List Piece = map piece_view c.args.item.now.others.items in
    let lists : List (List Piece) = map pieces_view c.in_ok-operands.operands.items in
    let cover : List (List ℕ) = c.in_ok-names.names.cover in
    let are : AreOperands cover (p ∷ others) lists = c.in_ok-operands.ensures in
    let slice : map pieces_view c.as_slice.result.now ≡ lists = ap (map pieces_view) c.as_slice.ensures.value in
    let smaller : lists_size (operand_lists cover (p ∷ others) 0 (length lists)) < pieces_size (p ∷ others) = lists_smaller cover p others 0 (length lists) in
    (omega (arith, c.decreases, smaller, ap lists_size are.are, ap lists_size slice), tt)

pub note_item-returns : goal.note_item-returns
note_item-returns t c =
    let p : Piece = piece_view c.args.item.now.first in
    let others : List Piece = map piece_view c.args.item.now.others.items in
    let cover : List (List ℕ) = c.in_ok-names.names.cover in
    let slice : map pieces_view c.as_slice.result.now ≡ map pieces_view c.in_ok-operands.operands.items = ap (map pieces_view) c.as_slice.ensures.value in
    on_ok_weaker c.note_levels.result (λ h rule. item_noted rule c.args.level.now cover p others (map pieces_view c.as_slice.result.now) (noted rule c.args.places.now) (noted rule c.note_parts.new.places) (noted rule c.note_levels.new.places)
    c.in_ok-names.ensures.cover (subst (λ (l : List (List Piece)). AreOperands cover (p ∷ others) l) (sym slice) c.in_ok-operands.ensures) (c.in_ok-note_parts.ensures rule) (h rule)) c.note_levels.ensures

pub note_item-returns-then-is_event : goal.note_item-returns-then-is_event
note_item-returns-then-is_event t c = λ rule.
    noted_none (ItemBreaks rule c.args.level.now (parts_view c.args.item.now)) (noted rule c.args.places.now)
    (λ q h. event_keeps rule c.args.level.now (piece_view c.args.item.now.first) (map piece_view c.args.item.now.others.items) q c.requires (sym c.is_event.ensures ∙ c.if-is_event.true) h)

-- ---- several levels

pub note_levels-note_level-requires : goal.note_levels-note_level-requires
note_levels-note_level-requires t c =
    let lists : List (Vec code.Piece Global) = c.args.lists.now in
    let k : ℕ = c.loop-pieces.pieces-index in
    let at : slice_get lists k ≡ Some c.pieces-item.result = slice_get_read lists (length lists) k c.pieces-item.result refl c.loop-pieces-test.true c.pieces-item.is in
    let here : slice_get (map pieces_view lists) k ≡ Some (pieces_view c.pieces-item.result) = map_at pieces_view lists k c.pieces-item.result at in
    let ps : map piece_view c.as_slice.result.now ≡ pieces_view c.pieces-item.result = ap (map piece_view) c.as_slice.ensures.value in
    let low : pieces_size (pieces_view c.pieces-item.result) ≤ lists_size (map pieces_view lists) = one_size (map pieces_view lists) k (pieces_view c.pieces-item.result) here in
    (omega (arith, c.decreases, low, ap pieces_size ps), tt)

pub note_levels-loop-pieces-preserved : goal.note_levels-loop-pieces-preserved
note_levels-loop-pieces-preserved t c = λ rule.
    let ps : map piece_view c.as_slice.result.now ≡ pieces_view c.pieces-item.result = ap (map piece_view) c.as_slice.ensures.value in
    walked_more pieces_view (BreaksPartRule rule c.args.cover.now) c.args.lists.now c.loop-pieces.pieces-index c.pieces-item.result (noted rule c.args.places.now) (noted rule c.loop-pieces.places) (noted rule c.note_level.new.places)
    c.loop-pieces-test.true c.pieces-item.is
    (subst (λ (l : List Piece). AreNoted (BreaksPartRule rule c.args.cover.now l) (noted rule c.loop-pieces.places) (noted rule c.note_level.new.places)) ps (c.in_ok-note_level.ensures rule))
    (c.loop-pieces.invariant rule)

pub note_levels-returns : goal.note_levels-returns
note_levels-returns t c = λ rule.
    walked_all pieces_view (BreaksPartRule rule c.args.cover.now) c.args.lists.now c.loop-pieces.pieces-index (noted rule c.args.places.now) (noted rule c.loop-pieces.places) c.loop-pieces-test.false (c.loop-pieces.invariant rule)
