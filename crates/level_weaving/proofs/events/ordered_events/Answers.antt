use Rattle.std.proofs.Common.{rules, ◌≡◌, ◌++◌, ◌∙◌, ℕ, Some, get_or, length, map, refl, slice_get}
use Rattle.std.proofs.lemmas.Option.{slice_get_read}
use Rattle.level_weaving.specs.LevelNodes.{piece_nodes}
use Rattle.level_pieces.specs.ItemNumbers.{first_parts}
use Rattle.level_pieces.specs.PieceViews.{parts_view, piece_view}
use Rattle.level_weaving.proofs.StepLaws.{nodes_step}
use Rattle.level_pieces.proofs.ItemLaws.{first_here}
use Rattle.level_weaving.proofs.events.ordered_events.Goals as goal

pub loop-number-preserved : goal.loop-number-preserved
loop-number-preserved c =
    let x : ℕ = get_or c.args.order.now c.loop-number.number-index 0 in
    let at : slice_get c.args.items.now x ≡ Some c.index-items-number.result =
    slice_get_read c.args.items.now (length c.args.items.now) x c.index-items-number.result refl (c.requires c.loop-number.number-index 0 c.loop-number-test.true) c.index-items-number.is in
    let made : c.piece.new.events ≡ c.loop-number.events ++ piece_nodes (piece_view c.index-items-number.result.first) = search rules in
    nodes_step (first_parts (map parts_view c.args.items.now)) c.args.order.now c.loop-number.number-index x (piece_view c.index-items-number.result.first) c.loop-number.events c.piece.new.events c.loop-number-test.true refl
    (first_here c.args.items.now x c.index-items-number.result at) made ∙ c.loop-number.invariant
