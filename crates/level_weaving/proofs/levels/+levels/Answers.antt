use Rattle.std.proofs.Common.{◌≡◌, ◌<◌, ◌≤◌, ◌+◌, ◌++◌, ◌∷◌, ◌∙◌, [], ℕ, List, Vec, Some, All, ap, arith, drop, get_or, length, map, refl, slice_get, subst, sym, take}
use Rattle.std.specs.Global.{Global}
use Rattle.std.proofs.lemmas.List.{length-map, map-append, take_all, take_more}
use Rattle.std.proofs.lemmas.Option.{slice_get_read}
use Rattle.msc_base.specs.Lists.{AreDifferent}
use Rattle.msc_meaning.specs.Bodies.{items}
use Rattle.column_order.specs.Answers.{IfWhole}
use Rattle.column_order.specs.Weaving.{IsWoven}
use Rattle.msc_meaning.specs.LevelItems.{Entry, columns_of, entries, level_items}
use Rattle.level_pieces.specs.PieceNumbers.{AreNumbered}
use Rattle.level_pieces.specs.FormedPieces.{AreFormed}
use Rattle.msc_meaning.specs.Levels.{AreWovenItems, no_woven, operand_number}
use Rattle.level_weaving.specs.LonelyItems.{ItemsLackPartner}
use Rattle.msc_meaning.specs.Pieces.{Piece}
use Rattle.msc_meaning.specs.Views.{item_view}
use Rattle.level_pieces.specs.ItemNumbers.{AreInside}
use Rattle.level_pieces.specs.ItemOperands.{AreOperands, operand_lists, operands_in, pieces_view}
use Rattle.level_pieces.specs.ItemParts.{AreItems}
use Rattle.level_pieces.specs.PieceViews.{part_view, parts_view, piece_view}
use Rattle.level_pieces.specs.declared.pieces.LevelItem as code_item
use Rattle.level_pieces.specs.declared.pieces.Piece as code
use Rattle.level_pieces.proofs.ItemLaws.{entries_inside, level_parts, parts_at}
use Rattle.level_pieces.proofs.OperandLaws.{cover_different}
use Rattle.level_pieces.proofs.ReadLaws.{columns_within, operands_count}
use Rattle.level_pieces.proofs.Sizes.{drop_size, level_size, lists_size, lists_smaller, one_size, pieces_size, take_size}
use Rattle.level_pieces.proofs.Walks.{all_low, map_at, map_drop, map_take}
use Rattle.level_weaving.specs.Answers.{AreItemsAnswer, AreLevels, AreLevelsAnswer, IsLevelAnswer, ItemsCross}
use Rattle.level_weaving.specs.LevelNumbers.{numbers_to}
use Rattle.level_weaving.proofs.GatherLaws.{gathered_none}
use Rattle.level_weaving.proofs.JointLaws.{drop_levels, level_at, lists_levels, take_levels}
use Rattle.level_weaving.proofs.LevelLaws.{numbers_low}
use Rattle.level_weaving.proofs.WalkSteps.{item_more, items_done, level_more, levels_done}
use Rattle.level_weaving.proofs.levels.+levels.Goals as goal

-- ---- an item

pub woven_item-item_operands-requires : goal.woven_item-item_operands-requires
woven_item-item_operands-requires t c = (c.in_ok-names.ensures.outer, columns_within c.in_ok-names.names.outer c.args.item.now.others.items c.requires.parts.4)

pub woven_item-split_at-requires : goal.woven_item-split_at-requires
woven_item-split_at-requires t c =
    let own = operands_count c.operands_of_form.result.now (operands_in (piece_view c.args.item.now.first).form) c.operands_of_form.ensures in
    let count : length (map pieces_view c.in_ok-operands.operands.items) ≡ length c.in_ok-operands.operands.items = length-map c.in_ok-operands.operands.items pieces_view in
    omega (arith, own, count, ap length c.as_slice.ensures.value, c.in_ok-operands.ensures.enough.0)

pub woven_item-woven_levels-requires : goal.woven_item-woven_levels-requires
woven_item-woven_levels-requires t c =
    let p : Piece = piece_view c.args.item.now.first in
    let others : List Piece = map piece_view c.args.item.now.others.items in
    let lists : List (List Piece) = map pieces_view c.in_ok-operands.operands.items in
    let cover : List (List ℕ) = c.in_ok-names.names.cover in
    let n : ℕ = length c.operands_of_form.result.now in
    let are : AreOperands cover (p ∷ others) lists = c.in_ok-operands.ensures in
    let own : map pieces_view c.split_at.result.0.now ≡ take n lists =
    ap (map pieces_view) (c.split_at.ensures.front ∙ ap (take n) c.as_slice.ensures.value) ∙ map_take pieces_view n c.in_ok-operands.operands.items in
    let smaller : lists_size (operand_lists cover (p ∷ others) 0 (length lists)) < pieces_size (p ∷ others) = lists_smaller cover p others 0 (length lists) in
    let low : lists_size (take n lists) ≤ lists_size lists = take_size n lists in (
      omega (arith, c.decreases, smaller, low, ap lists_size are.are, ap lists_size own),
      (
        subst (λ (names : List (List ℕ)). AreDifferent names) (sym c.in_ok-names.ensures.cover) (cover_different c.args.level.now p c.requires.different),
        subst (λ (l : List (List Piece)). AreLevels l) (sym own) (take_levels n lists (subst (λ (l : List (List Piece)). AreLevels l) (sym are.are) (lists_levels cover (p ∷ others) 0 (length lists) c.requires.parts))),
      ),
    )

pub woven_item-woven_levels-requires-2 : goal.woven_item-woven_levels-requires-2
woven_item-woven_levels-requires-2 t c =
    let p : Piece = piece_view c.args.item.now.first in
    let others : List Piece = map piece_view c.args.item.now.others.items in
    let lists : List (List Piece) = map pieces_view c.in_ok-operands.operands.items in
    let cover : List (List ℕ) = c.in_ok-names.names.cover in
    let n : ℕ = length c.operands_of_form.result.now in
    let are : AreOperands cover (p ∷ others) lists = c.in_ok-operands.ensures in
    let beyond : map pieces_view c.split_at.result.1.now ≡ drop n lists =
    ap (map pieces_view) (c.split_at.ensures.back ∙ ap (drop n) c.as_slice.ensures.value) ∙ map_drop pieces_view n c.in_ok-operands.operands.items in
    let smaller : lists_size (operand_lists cover (p ∷ others) 0 (length lists)) < pieces_size (p ∷ others) = lists_smaller cover p others 0 (length lists) in
    let low : lists_size (drop n lists) ≤ lists_size lists = drop_size n lists in (
      omega (arith, c.decreases, smaller, low, ap lists_size are.are, ap lists_size beyond),
      (
        subst (λ (names : List (List ℕ)). AreDifferent names) (sym c.in_ok-names.ensures.cover) (cover_different c.args.level.now p c.requires.different),
        subst (λ (l : List (List Piece)). AreLevels l) (sym beyond) (drop_levels n lists (subst (λ (l : List (List Piece)). AreLevels l) (sym are.are) (lists_levels cover (p ∷ others) 0 (length lists) c.requires.parts))),
      ),
    )

pub woven_item-returns : goal.woven_item-returns
woven_item-returns t c =
    let p : Piece = piece_view c.args.item.now.first in
    let lists : List (List Piece) = map pieces_view c.in_ok-operands.operands.items in
    let cover : List (List ℕ) = c.in_ok-names.names.cover in
    let n : ℕ = length c.operands_of_form.result.now in
    let m : ℕ = operand_number (operands_in p.form) in
    let same : n ≡ m = operands_count c.operands_of_form.result.now (operands_in p.form) c.operands_of_form.ensures in
    let own : map pieces_view c.split_at.result.0.now ≡ take m lists =
    ap (map pieces_view) (c.split_at.ensures.front ∙ ap (take n) c.as_slice.ensures.value) ∙ map_take pieces_view n c.in_ok-operands.operands.items ∙ ap (λ (k : ℕ). take k lists) same in
    let beyond : map pieces_view c.split_at.result.1.now ≡ drop m lists =
    ap (map pieces_view) (c.split_at.ensures.back ∙ ap (drop n) c.as_slice.ensures.value) ∙ map_drop pieces_view n c.in_ok-operands.operands.items ∙ ap (λ (k : ℕ). drop k lists) same in
    c.joint_answer.ensures c.args.level.now lists c.in_ok-operands.ensures c.in_ok-names.ensures.cover
    (subst (λ (l : List (List Piece)). AreLevelsAnswer cover l c.in_ok-answer.answer) own c.in_ok-answer.ensures)
    (subst (λ (l : List (List Piece)). AreLevelsAnswer cover l c.in_ok-beyond.beyond) beyond c.in_ok-beyond.ensures)

-- ---- items

pub woven_items-loop-number-init : goal.woven_items-loop-number-init
woven_items-loop-number-init t c =
    gathered_none (λ is. AreWovenItems c.args.level.now (map parts_view c.args.items.now) [] (items (map item_view is))) (λ is. ItemsLackPartner (items (map item_view is)))
    (ItemsCross c.args.level.now (map parts_view c.args.items.now) []) c.in_ok-gathered.gathered c.in_ok-gathered.ensures.list c.in_ok-gathered.ensures.alone c.in_ok-gathered.ensures.crossed no_woven (λ q h. h) (λ q h. h)

pub woven_items-woven_item-requires : goal.woven_items-woven_item-requires
woven_items-woven_item-requires t c =
    let held : List code_item.LevelItem = c.args.items.now in
    let x : ℕ = get_or c.args.order.now c.loop-number.number-index 0 in
    let at : slice_get held x ≡ Some c.index-items-number.result =
    slice_get_read held (length held) x c.index-items-number.result refl (c.requires.low c.loop-number.number-index 0 c.loop-number-test.true) c.index-items-number.is in
    let here : slice_get (map parts_view held) x ≡ Some (parts_view c.index-items-number.result) = map_at parts_view held x c.index-items-number.result at in (
      omega (arith, c.decreases, one_size (map parts_view held) x (parts_view c.index-items-number.result) here),
      (c.requires.different, parts_at (map parts_view held) x (parts_view c.index-items-number.result) c.requires.items here),
    )

pub woven_items-loop-number-preserved : goal.woven_items-loop-number-preserved
woven_items-loop-number-preserved t c =
    let held : List code_item.LevelItem = c.args.items.now in
    let x : ℕ = get_or c.args.order.now c.loop-number.number-index 0 in
    let at : slice_get held x ≡ Some c.index-items-number.result =
    slice_get_read held (length held) x c.index-items-number.result refl (c.requires.low c.loop-number.number-index 0 c.loop-number-test.true) c.index-items-number.is in
    item_more c.args.level.now (map parts_view held) c.args.order.now c.loop-number.number-index x (parts_view c.index-items-number.result) c.loop-number.gathered c.add.new.self c.in_ok-answer.answer
    c.loop-number-test.true refl (map_at parts_view held x c.index-items-number.result at) c.loop-number.invariant c.in_ok-answer.ensures c.in_ok-add.ensures

pub woven_items-returns : goal.woven_items-returns
woven_items-returns t c =
    subst (λ a. AreItemsAnswer c.args.level.now (map parts_view c.args.items.now) c.args.order.now a) (sym c.answer.ensures)
    (items_done c.args.level.now (map parts_view c.args.items.now) c.args.order.now c.loop-number.number-index c.loop-number.gathered (take_all c.loop-number.number-index c.args.order.now c.loop-number-test.false) c.loop-number.invariant)

-- ---- a level

pub woven_level-woven_order-requires-clause-inside : goal.woven_level-woven_order-requires-clause-inside
woven_level-woven_order-requires-clause-inside t c =
    let ps : List Piece = map piece_view c.args.pieces.now in
    let count : length (level_items ps) ≡ length c.as_slice-list.result.now =
    ap length (sym c.in_ok-items.ensures.items) ∙ length-map c.in_ok-items.items.items.items parts_view ∙ sym (ap length c.as_slice-list.ensures.value) in
    let parts : map part_view c.as_slice-2.result.now ≡ entries ps = ap (map part_view) c.as_slice-2.ensures.value ∙ c.in_ok-items.ensures.parts in
    subst (λ (es : List Entry). AreInside (length c.as_slice-list.result.now) es) (sym parts) (subst (λ (n : ℕ). AreInside n (entries ps)) count (entries_inside ps))

pub woven_level-woven_items-requires : goal.woven_level-woven_items-requires
woven_level-woven_items-requires t c =
    let ps : List Piece = map piece_view c.args.pieces.now in
    let list : map parts_view c.as_slice-list.result.now ≡ level_items ps = ap (map parts_view) c.as_slice-list.ensures.value ∙ c.in_ok-items.ensures.items in
    let count : length (level_items ps) ≡ length c.as_slice-list.result.now = ap length (sym list) ∙ length-map c.as_slice-list.result.now parts_view in
    let parts : map part_view c.as_slice-2.result.now ≡ entries ps = ap (map part_view) c.as_slice-2.ensures.value ∙ c.in_ok-items.ensures.parts in
    let low : lists_size (level_items ps) ≤ pieces_size ps = level_size ps in
    let given = subst (λ s. IfWhole s (λ order. IsWoven (length c.as_slice-list.result.now) (columns_of (map part_view c.as_slice-2.result.now) c.as_slice.result.now) order.items)) c.in-Whole.is c.in_ok-order.ensures.woven in (
      omega (arith, c.decreases, low, ap lists_size list),
      (
        c.requires.different,
        (
          subst (λ (l : List (List Piece)). AreItems l) (sym list) (level_parts ps c.requires.formed c.requires.numbered),
          subst (λ (l : List ℕ). All (λ x. x < length c.as_slice-list.result.now) l) (sym c.as_slice-in-Whole.ensures.value)
              (all_low c.in-Whole.order.items (length c.as_slice-list.result.now) (λ x h. given.inside x h)),
        ),
      ),
    )

pub woven_level-woven_items-requires-in-Stuck : goal.woven_level-woven_items-requires-in-Stuck
woven_level-woven_items-requires-in-Stuck t c =
    let ps : List Piece = map piece_view c.args.pieces.now in
    let list : map parts_view c.as_slice-list.result.now ≡ level_items ps = ap (map parts_view) c.as_slice-list.ensures.value ∙ c.in_ok-items.ensures.items in
    let low : lists_size (level_items ps) ≤ pieces_size ps = level_size ps in
    let order : c.as_slice-in-Stuck.result.now ≡ numbers_to (length c.as_slice-list.result.now) = c.as_slice-in-Stuck.ensures.value ∙ c.in_ok-order-in-Stuck.ensures in (
      omega (arith, c.decreases, low, ap lists_size list),
      (
        c.requires.different,
        (
          subst (λ (l : List (List Piece)). AreItems l) (sym list) (level_parts ps c.requires.formed c.requires.numbered),
          subst (λ (l : List ℕ). All (λ x. x < length c.as_slice-list.result.now) l) (sym order) (numbers_low (length c.as_slice-list.result.now)),
        ),
      ),
    )

pub woven_level-stuck_level-requires-clause-answer : goal.woven_level-stuck_level-requires-clause-answer
woven_level-stuck_level-requires-clause-answer t c =
    let order : c.as_slice-in-Stuck.result.now ≡ numbers_to (length c.as_slice-list.result.now) = c.as_slice-in-Stuck.ensures.value ∙ c.in_ok-order-in-Stuck.ensures in
    subst (λ (l : List ℕ). AreItemsAnswer c.args.cover.now (map parts_view c.as_slice-list.result.now) l c.in_ok-answer-in-Stuck.answer) order c.in_ok-answer-in-Stuck.ensures

-- ---- several levels

pub woven_levels-woven_level-requires : goal.woven_levels-woven_level-requires
woven_levels-woven_level-requires t c =
    let lists : List (Vec code.Piece Global) = c.args.lists.now in
    let k : ℕ = c.loop-pieces.pieces-index in
    let at : slice_get lists k ≡ Some c.pieces-item.result = slice_get_read lists (length lists) k c.pieces-item.result refl c.loop-pieces-test.true c.pieces-item.is in
    let here : slice_get (map pieces_view lists) k ≡ Some (pieces_view c.pieces-item.result) = map_at pieces_view lists k c.pieces-item.result at in
    let ps : map piece_view c.as_slice.result.now ≡ pieces_view c.pieces-item.result = ap (map piece_view) c.as_slice.ensures.value in
    let one = level_at (map pieces_view lists) k (pieces_view c.pieces-item.result) c.requires.levels here in
    let low : pieces_size (pieces_view c.pieces-item.result) ≤ lists_size (map pieces_view lists) = one_size (map pieces_view lists) k (pieces_view c.pieces-item.result) here in (
      omega (arith, c.decreases, low, ap pieces_size ps),
      (c.requires.different, (subst (λ (l : List Piece). AreNumbered 0 l) (sym ps) one.0, subst (λ (l : List Piece). AreFormed l) (sym ps) one.1)),
    )

pub woven_levels-loop-pieces-preserved : goal.woven_levels-loop-pieces-preserved
woven_levels-loop-pieces-preserved t c =
    let lists : List (Vec code.Piece Global) = c.args.lists.now in
    let k : ℕ = c.loop-pieces.pieces-index in
    let ps : map piece_view c.as_slice.result.now ≡ pieces_view c.pieces-item.result = ap (map piece_view) c.as_slice.ensures.value in
    let longer : map pieces_view (take (k + 1) lists) ≡ map pieces_view (take k lists) ++ pieces_view c.pieces-item.result ∷ [] =
    ap (map pieces_view) (take_more lists k c.pieces-item.result c.loop-pieces-test.true ∙ ap (λ (v : Vec code.Piece Global). take k lists ++ v ∷ []) (sym c.pieces-item.is)) ∙ map-append pieces_view (take k lists) (c.pieces-item.result ∷ []) in
    level_more c.args.cover.now (map pieces_view (take k lists)) (map pieces_view (take (k + 1) lists)) (pieces_view c.pieces-item.result) c.loop-pieces.gathered c.add.new.self c.in_ok-answer.answer longer c.loop-pieces.invariant
    (subst (λ (l : List Piece). IsLevelAnswer c.args.cover.now l c.in_ok-answer.answer) ps c.in_ok-answer.ensures) c.in_ok-add.ensures

pub woven_levels-returns : goal.woven_levels-returns
woven_levels-returns t c =
    let lists : List (Vec code.Piece Global) = c.args.lists.now in
    subst (λ a. AreLevelsAnswer c.args.cover.now (map pieces_view lists) a) (sym c.answer.ensures)
    (levels_done c.args.cover.now (map pieces_view (take c.loop-pieces.pieces-index lists)) (map pieces_view lists) c.loop-pieces.gathered
    (ap (map pieces_view) (take_all c.loop-pieces.pieces-index lists c.loop-pieces-test.false)) c.loop-pieces.invariant)
