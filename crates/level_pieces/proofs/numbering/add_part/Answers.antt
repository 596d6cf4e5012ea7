use Rattle.std.proofs.Common.{rules, ◌≡◌, ◌++◌, ◌∷◌, ◌∙◌, [], List, Some, ap, length, map, refl, slice_get}
use Rattle.std.proofs.lemmas.List.{map-append}
use Rattle.std.proofs.lemmas.Option.{slice_get_read}
use Rattle.level_pieces.specs.PieceViews.{piece_view}
use Rattle.level_pieces.specs.declared.pieces.LevelItem as code_item
use Rattle.msc_meaning.specs.Pieces.{Piece}
use Rattle.level_pieces.proofs.NumberLaws.{part_set}
use Rattle.level_pieces.proofs.numbering.add_part.Goals as goal

pub returns-clause-items : goal.returns-clause-items
returns-clause-items c =
    let items : List code_item.LevelItem = c.args.numbering.now.items.items in
    let old : code_item.LevelItem = c.index_mut.result.now in
    let at : slice_get items c.args.number ≡ Some old = slice_get_read items (length items) c.args.number old refl c.requires c.index_mut.ensures.value in
    let pushed : c.push.new.self.items ≡ old.others.items ++ c.args.piece ∷ [] = search rules in
    let parts : map piece_view c.push.new.self.items ≡ map piece_view old.others.items ++ piece_view c.args.piece ∷ [] = ap (map piece_view) pushed ∙ map-append piece_view old.others.items (c.args.piece ∷ []) in
    part_set items c.args.number old (record { first = old.first; others = c.push.new.self }) (piece_view c.args.piece) at (ap (λ (l : List Piece). piece_view old.first ∷ l) parts)
