use Rattle.std.proofs.Common.{rules, ◌≡◌, ◌<◌, ◌≤◌, ◌++◌, ◌∷◌, ◌∙◌, [], ℕ, List, Some, Vec, ap, arith, false, length, map, refl, slice_get, subst, sym, take, true}
use Rattle.std.specs.Global.{Global}
use Rattle.std.proofs.lemmas.List.{length-map}
use Rattle.std.proofs.lemmas.Option.{slice_get_read}
use Rattle.std.proofs.lemmas.Result.{IfOk-weaker}
use Rattle.level_pieces.specs.FormedPieces.{AreFormed}
use Rattle.level_pieces.specs.ItemOperands.{AreOperands, operand_lists, operands_in, pieces_view}
use Rattle.level_pieces.specs.ItemParts.{AreItems, has_events}
use Rattle.level_pieces.specs.PieceNumbers.{AreNumbered}
use Rattle.level_pieces.specs.PieceViews.{parts_view, piece_view}
use Rattle.level_pieces.specs.declared.pieces.LevelItem as code_item
use Rattle.level_pieces.specs.declared.pieces.Piece as code
use Rattle.level_pieces.proofs.ItemLaws.{level_parts, parts_at}
use Rattle.level_pieces.proofs.ReadLaws.{columns_within, operands_count}
use Rattle.level_pieces.proofs.Sizes.{level_size, lists_size, lists_smaller, one_size, pieces_size, take_size}
use Rattle.level_pieces.proofs.Walks.{map_at, map_take}
use Rattle.level_weaving.specs.Answers.{AreLevels}
use Rattle.level_weaving.specs.JointItems.{joint_item_of}
use Rattle.level_weaving.proofs.EventItems.{event_at_one}
use Rattle.level_weaving.proofs.JointLaws.{level_at, lists_levels, take_levels}
use Rattle.msc_meaning.specs.Bodies.{Body, WovenItem, WovenItems, bodies, items, level, no_items}
use Rattle.msc_meaning.specs.LevelItems.{level_items}
use Rattle.msc_meaning.specs.Levels.{IsWovenItem, operand_number}
use Rattle.msc_meaning.specs.Pieces.{Piece}
use Rattle.msc_meaning.specs.Views.{body_view, item_view}
use Rattle.msc_meaning.specs.declared.body.Body as code_body
use Rattle.msc_meaning.specs.declared.body.Item as code_made
use Rattle.msc_tree.specs.Statements.{Reference}
use Rattle.level_gathering.specs.Gathered.{AreGatheredItems, IsGatheredItem, IsGatheredLevel, none_gathered, references_of}
use Rattle.level_gathering.specs.Noting.{AreGatheredLevels, IsNoted, no_level}
use Rattle.level_gathering.specs.ReferenceViews.{lists_view}
use Rattle.level_gathering.proofs.NotingSteps.{event_gathered, item_more, joint_noted, level_more, level_noted, noted_none}
use Rattle.level_gathering.proofs.gathering.+levels.Goals as goal

-- ---- an item

pub gathered_item-copied_events_of-requires-clause-at_one : goal.gathered_item-copied_events_of-requires-clause-at_one
gathered_item-copied_events_of-requires-clause-at_one t c = event_at_one (piece_view c.args.item.now.first) (map piece_view c.args.item.now.others.items) c.requires (search rules)

pub gathered_item-item_operands-requires : goal.gathered_item-item_operands-requires
gathered_item-item_operands-requires t c = (c.in_ok-names.ensures.outer, columns_within c.in_ok-names.names.outer c.args.item.now.others.items c.requires.4)

pub gathered_item-split_at-requires : goal.gathered_item-split_at-requires
gathered_item-split_at-requires t c =
    let own = operands_count c.operands_of_form.result.now (operands_in (piece_view c.args.item.now.first).form) c.operands_of_form.ensures in
    let count : length (map pieces_view c.in_ok-operands.operands.items) ≡ length c.in_ok-operands.operands.items = length-map c.in_ok-operands.operands.items pieces_view in
    omega (arith, own, count, ap length c.as_slice.ensures.value, c.in_ok-operands.ensures.enough.0)

pub gathered_item-gathered_levels-requires : goal.gathered_item-gathered_levels-requires
gathered_item-gathered_levels-requires t c =
    let p : Piece = piece_view c.args.item.now.first in
    let others : List Piece = map piece_view c.args.item.now.others.items in
    let lists : List (List Piece) = map pieces_view c.in_ok-operands.operands.items in
    let cover : List (List ℕ) = c.in_ok-names.names.cover in
    let n : ℕ = length c.operands_of_form.result.now in
    let are : AreOperands cover (p ∷ others) lists = c.in_ok-operands.ensures in
    let own : map pieces_view c.split_at.result.0.now ≡ take n lists =
    ap (map pieces_view) (c.split_at.ensures.front ∙ ap (take n) c.as_slice.ensures.value) ∙ map_take pieces_view n c.in_ok-operands.operands.items in
    let smaller : lists_size (operand_lists cover (p ∷ others) 0 (length lists)) < pieces_size (p ∷ others) = lists_smaller cover p others 0 (length lists) in
    let low : lists_size (take n lists) ≤ lists_size lists = take_size n lists in (
      omega (arith, c.decreases, smaller, low, ap lists_size are.are, ap lists_size own),
      subst (λ (l : List (List Piece)). AreLevels l) (sym own) (take_levels n lists (subst (λ (l : List (List Piece)). AreLevels l) (sym are.are) (lists_levels cover (p ∷ others) 0 (length lists) c.requires))),
    )

pub gathered_item-returns-then-is_event : goal.gathered_item-returns-then-is_event
gathered_item-returns-then-is_event t c =
    let p : Piece = piece_view c.args.item.now.first in
    let others : List Piece = map piece_view c.args.item.now.others.items in
    let outer : List (List ℕ) = c.args.level.now in
    let old : List (List Reference) = lists_view c.args.references.now in
    let events : has_events p.form ≡ true = search rules in
    IfOk-weaker c.copied_events_of.result (λ i. IsWovenItem outer (p ∷ []) (item_view i)) (λ i. IsNoted (IsGatheredItem outer (p ∷ others) (item_view i)) old old)
    (λ i w. noted_none (IsGatheredItem outer (p ∷ others) (item_view i)) old (event_gathered outer p others (item_view i) c.requires events w)) (c.copied_events_of.ensures outer)

pub gathered_item-returns : goal.gathered_item-returns
gathered_item-returns t c =
    let p : Piece = piece_view c.args.item.now.first in
    let others : List Piece = map piece_view c.args.item.now.others.items in
    let outer : List (List ℕ) = c.args.level.now in
    let cover : List (List ℕ) = c.in_ok-names.names.cover in
    let old : List (List Reference) = lists_view c.args.references.now in
    let new : List (List Reference) = lists_view c.gathered_levels.new.references in
    let bs : List Body = map body_view c.in_ok-held.held.items in
    let lists : List (List Piece) = map pieces_view c.in_ok-operands.operands.items in
    let n : ℕ = length c.operands_of_form.result.now in
    let own : map pieces_view c.split_at.result.0.now ≡ take n lists =
    ap (map pieces_view) (c.split_at.ensures.front ∙ ap (take n) c.as_slice.ensures.value) ∙ map_take pieces_view n c.in_ok-operands.operands.items in
    let same : n ≡ operand_number (operands_in p.form) = operands_count c.operands_of_form.result.now (operands_in p.form) c.operands_of_form.ensures in
    let held : IsNoted (AreGatheredLevels cover (map pieces_view c.split_at.result.0.now) bs) old new = c.in_ok-held.ensures in
    let events : has_events p.form ≡ false = search rules in
    let item : IsNoted (IsGatheredItem outer (p ∷ others) (joint_item_of cover p.place p.form (bodies bs))) old new =
    joint_noted outer cover p others lists bs n old new c.in_ok-operands.ensures c.in_ok-names.ensures.cover same events c.requires.0 (subst (λ (l : List (List Piece)). IsNoted (AreGatheredLevels cover l bs) old new) own held) in
    IfOk-weaker c.joint_item.result (λ i. item_view i ≡ joint_item_of cover p.place p.form (bodies bs)) (λ i. IsNoted (IsGatheredItem outer (p ∷ others) (item_view i)) old new)
    (λ i e. subst (λ (x : WovenItem). IsNoted (IsGatheredItem outer (p ∷ others) x) old new) (sym e) item) c.joint_item.ensures

-- ---- items

pub gathered_items-loop-item-init : goal.gathered_items-loop-item-init
gathered_items-loop-item-init t c =
    let none : c.in_ok-held.held.items ≡ [] = search rules in
    subst (λ (is : List code_made.Item). IsNoted (AreGatheredItems c.args.level.now [] (items (map item_view is))) (lists_view c.args.references.now) (lists_view c.args.references.now)) (sym none)
    (noted_none (AreGatheredItems c.args.level.now [] no_items) (lists_view c.args.references.now) none_gathered)

pub gathered_items-gathered_item-requires : goal.gathered_items-gathered_item-requires
gathered_items-gathered_item-requires t c =
    let held : List code_item.LevelItem = c.args.items.now in
    let k : ℕ = c.loop-item.item-index in
    let at : slice_get held k ≡ Some c.item-item.result = slice_get_read held (length held) k c.item-item.result refl c.loop-item-test.true c.item-item.is in
    let here : slice_get (map parts_view held) k ≡ Some (parts_view c.item-item.result) = map_at parts_view held k c.item-item.result at in (
      omega (arith, c.decreases, one_size (map parts_view held) k (parts_view c.item-item.result) here),
      parts_at (map parts_view held) k (parts_view c.item-item.result) c.requires here,
    )

pub gathered_items-loop-item-preserved : goal.gathered_items-loop-item-preserved
gathered_items-loop-item-preserved t c =
    let pushed : c.push.new.self.items ≡ c.loop-item.held.items ++ c.in_ok-made.made ∷ [] = search rules in
    item_more c.args.level.now c.args.items.now c.loop-item.item-index c.item-item.result c.loop-item.held.items c.push.new.self.items c.in_ok-made.made (lists_view c.args.references.now) (lists_view c.loop-item.references)
    (lists_view c.gathered_item.new.references) c.loop-item-test.true c.item-item.is pushed c.loop-item.invariant c.in_ok-made.ensures

-- ---- a level

pub gathered_level-gathered_items-requires : goal.gathered_level-gathered_items-requires
gathered_level-gathered_items-requires t c =
    let ps : List Piece = map piece_view c.args.pieces.now in
    let list : map parts_view c.as_slice.result.now ≡ level_items ps = ap (map parts_view) c.as_slice.ensures.value ∙ c.in_ok-items.ensures.items in
    let low : lists_size (level_items ps) ≤ pieces_size ps = level_size ps in (
      omega (arith, c.decreases, low, ap lists_size list),
      subst (λ (l : List (List Piece)). AreItems l) (sym list) (level_parts ps c.requires.formed c.requires.numbered),
    )

pub gathered_level-returns : goal.gathered_level-returns
gathered_level-returns t c =
    let ps : List Piece = map piece_view c.args.pieces.now in
    let cover : List (List ℕ) = c.args.cover.now in
    let held : WovenItems = items (map item_view c.in_ok-held.held.items) in
    let list : map parts_view c.as_slice.result.now ≡ level_items ps = ap (map parts_view) c.as_slice.ensures.value ∙ c.in_ok-items.ensures.items in
    let names : c.in_ok-names.names ≡ cover = search rules in
    let shape : body_view c.unpaired.result ≡ level cover held [] = c.unpaired.ensures ∙ ap (λ (ns : List (List ℕ)). level ns held []) names in
    let inside : IsNoted (AreGatheredItems cover (level_items ps) held) (lists_view c.note_level.new.references) (lists_view c.gathered_items.new.references) =
    subst (λ (l : List (List Piece)). IsNoted (AreGatheredItems cover l held) (lists_view c.note_level.new.references) (lists_view c.gathered_items.new.references)) list c.in_ok-held.ensures in
    let noted : lists_view c.note_level.new.references ≡ lists_view c.args.references.now ++ references_of ps ∷ [] = search rules in
    subst (λ (b : Body). IsNoted (IsGatheredLevel cover ps b) (lists_view c.args.references.now) (lists_view c.gathered_items.new.references)) (sym shape)
    (level_noted cover ps held (lists_view c.args.references.now) (lists_view c.note_level.new.references) (lists_view c.gathered_items.new.references) noted inside)

-- ---- several levels

pub gathered_levels-loop-pieces-init : goal.gathered_levels-loop-pieces-init
gathered_levels-loop-pieces-init t c =
    let none : c.in_ok-bodies.bodies.items ≡ [] = search rules in
    subst (λ (bs : List code_body.Body). IsNoted (AreGatheredLevels c.args.cover.now [] (map body_view bs)) (lists_view c.args.references.now) (lists_view c.args.references.now)) (sym none)
    (noted_none (AreGatheredLevels c.args.cover.now [] []) (lists_view c.args.references.now) no_level)

pub gathered_levels-gathered_level-requires : goal.gathered_levels-gathered_level-requires
gathered_levels-gathered_level-requires t c =
    let lists : List (Vec code.Piece Global) = c.args.lists.now in
    let k : ℕ = c.loop-pieces.pieces-index in
    let at : slice_get lists k ≡ Some c.pieces-item.result = slice_get_read lists (length lists) k c.pieces-item.result refl c.loop-pieces-test.true c.pieces-item.is in
    let here : slice_get (map pieces_view lists) k ≡ Some (pieces_view c.pieces-item.result) = map_at pieces_view lists k c.pieces-item.result at in
    let ps : map piece_view c.as_slice.result.now ≡ pieces_view c.pieces-item.result = ap (map piece_view) c.as_slice.ensures.value in
    let one = level_at (map pieces_view lists) k (pieces_view c.pieces-item.result) c.requires here in
    let low : pieces_size (pieces_view c.pieces-item.result) ≤ lists_size (map pieces_view lists) = one_size (map pieces_view lists) k (pieces_view c.pieces-item.result) here in (
      omega (arith, c.decreases, low, ap pieces_size ps),
      (subst (λ (l : List Piece). AreNumbered 0 l) (sym ps) one.0, subst (λ (l : List Piece). AreFormed l) (sym ps) one.1),
    )

pub gathered_levels-loop-pieces-preserved : goal.gathered_levels-loop-pieces-preserved
gathered_levels-loop-pieces-preserved t c =
    let ps : map piece_view c.as_slice.result.now ≡ pieces_view c.pieces-item.result = ap (map piece_view) c.as_slice.ensures.value in
    let pushed : c.push.new.self.items ≡ c.loop-pieces.bodies.items ++ c.in_ok-made.made ∷ [] = search rules in
    let made : IsNoted (IsGatheredLevel c.args.cover.now (pieces_view c.pieces-item.result) (body_view c.in_ok-made.made)) (lists_view c.loop-pieces.references) (lists_view c.gathered_level.new.references) =
    subst (λ (l : List Piece). IsNoted (IsGatheredLevel c.args.cover.now l (body_view c.in_ok-made.made)) (lists_view c.loop-pieces.references) (lists_view c.gathered_level.new.references)) ps c.in_ok-made.ensures in
    level_more c.args.cover.now c.args.lists.now c.loop-pieces.pieces-index c.pieces-item.result c.loop-pieces.bodies.items c.push.new.self.items c.in_ok-made.made (lists_view c.args.references.now) (lists_view c.loop-pieces.references)
    (lists_view c.gathered_level.new.references) c.loop-pieces-test.true c.pieces-item.is pushed c.loop-pieces.invariant made
