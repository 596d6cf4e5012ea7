use Rattle.std.proofs.Common.{rules, ◌≡◌, ◌++◌, ◌∷◌, [], map, ap, ◌∙◌}
use Rattle.std.proofs.lemmas.List.{map-append}
use Rattle.level_pieces.specs.PieceViews.{piece_view}
use Rattle.level_pieces.proofs.pieces.push_piece.Goals as goal

pub returns : goal.returns
returns c =
    let made : c.push.new.self.items ≡ c.args.pieces.now.items ++ c.args.piece ∷ [] = search rules in
    ap (map piece_view) made ∙ map-append piece_view c.args.pieces.now.items (c.args.piece ∷ [])
