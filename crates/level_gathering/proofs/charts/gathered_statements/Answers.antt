use Rattle.std.proofs.Common.{rules, ◌≡◌, ◌∙◌, ap, List, map, subst, sym}
use Rattle.chart_text.specs.Texts.{Whole}
use Rattle.level_gathering.proofs.charts.gathered_statements.Goals as goal
use Rattle.level_pieces.proofs.NumberedPieces.{statements_numbered}
use Rattle.level_pieces.proofs.OperandLaws.{statements_formed}
use Rattle.level_pieces.specs.FormedPieces.{AreFormed}
use Rattle.level_pieces.specs.PieceNumbers.{AreNumbered}
use Rattle.level_pieces.specs.PieceViews.{piece_view}
use Rattle.msc_meaning.specs.Pieces.{Piece, statements_pieces}
use Rattle.msc_tree.specs.Statements.{statements}
use Rattle.msc_tree.specs.Views.{statement_view}

pub gathered_level-requires-clause-numbered : goal.gathered_level-requires-clause-numbered
gathered_level-requires-clause-numbered c =
    let pieces : map piece_view c.in_ok-pieces.pieces.items ≡ statements_pieces c.args.names.now 0 (statements (map statement_view c.args.list.now)) = search rules in
    subst (λ (ps : List Piece). AreNumbered 0 ps) (sym (ap (map piece_view) c.as_slice.ensures.value ∙ pieces))
    (statements_numbered c.args.names.now 0 (statements (map statement_view c.args.list.now)))

pub gathered_level-requires-clause-formed : goal.gathered_level-requires-clause-formed
gathered_level-requires-clause-formed c =
    let pieces : map piece_view c.in_ok-pieces.pieces.items ≡ statements_pieces c.args.names.now 0 (statements (map statement_view c.args.list.now)) = search rules in
    subst (λ (ps : List Piece). AreFormed ps) (sym (ap (map piece_view) c.as_slice.ensures.value ∙ pieces))
    (statements_formed 0 Whole c.args.names.now 0 (statements (map statement_view c.args.list.now)) c.requires)
