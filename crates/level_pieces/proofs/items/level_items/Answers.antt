use Rattle.std.proofs.Common.{arith, ◌++◌, ◌∙◌, [], List, ap, map, subst, sym, take}
use Rattle.std.proofs.lemmas.List.{append-nil, take_all}
use Rattle.list_facts.proofs.Reading.{drop_end}
use Rattle.msc_meaning.specs.LevelItems.{Entry, entries, entries_behind, with_pieces}
use Rattle.msc_meaning.specs.Pieces.{Piece}
use Rattle.level_pieces.specs.ItemNumbers.{IsNumbering}
use Rattle.level_pieces.specs.PieceViews.{part_view, piece_view}
use Rattle.level_pieces.specs.declared.pieces.Part as code_part
use Rattle.level_pieces.specs.declared.pieces.Piece as code
use Rattle.level_pieces.proofs.StepLaws.{items_next, parts_step}
use Rattle.level_pieces.proofs.items.level_items.Goals as goal

pub loop-piece-init : goal.loop-piece-init
loop-piece-init c = record {
  numbering = c.in_ok-numbering.ensures;
  parts = ap (λ (l : List code_part.Part). map part_view l ++ entries (map piece_view c.args.pieces.now)) c.in_ok-parts.ensures.items;
}

pub loop-piece-preserved : goal.loop-piece-preserved
loop-piece-preserved c =
    let xs : List (List Piece) = with_pieces [] (map piece_view (take c.loop-piece.piece-index c.args.pieces.now)) in
    record {
      numbering = subst (λ (ys : List (List Piece)). IsNumbering ys c.add_piece.new.numbering) (sym (items_next c.args.pieces.now c.loop-piece.piece-index c.piece-item.result c.loop-piece-test.true c.piece-item.is))
          (c.in_ok-add_piece.ensures.numbering xs c.loop-piece.invariant.numbering);
      parts = parts_step c.args.pieces.now c.loop-piece.piece-index c.piece-item.result (map part_view c.loop-piece.parts.items) (map part_view c.add_piece.new.parts.items) (entries (map piece_view c.args.pieces.now))
          c.loop-piece-test.true c.piece-item.is (c.in_ok-add_piece.ensures.parts xs c.loop-piece.invariant.numbering) c.loop-piece.invariant.parts;
    }

pub returns-clause-parts : goal.returns-clause-parts
returns-clause-parts c =
    let xs : List (List Piece) = with_pieces [] (map piece_view (take c.loop-piece.piece-index c.args.pieces.now)) in
    let own : List Entry = map part_view c.loop-piece.parts.items in
    sym (append-nil own) ∙ ap (λ (ds : List code.Piece). own ++ entries_behind xs (map piece_view ds)) (sym (drop_end c.args.pieces.now c.loop-piece.piece-index (λ l. omega (arith, l, c.loop-piece-test.false)))) ∙ c.loop-piece.invariant.parts

pub returns-clause-items : goal.returns-clause-items
returns-clause-items c =
    c.loop-piece.invariant.numbering.items
    ∙ ap (λ (l : List code.Piece). with_pieces [] (map piece_view l)) (take_all c.loop-piece.piece-index c.args.pieces.now c.loop-piece-test.false)
