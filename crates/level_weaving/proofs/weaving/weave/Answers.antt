use Rattle.std.proofs.Common.{rules, ◌≡◌, ◌∙◌, List, IfErr, IfOk, ap, map, subst, sym}
use Rattle.chart_text.specs.Texts.{Whole}
use Rattle.msc_meaning.specs.Pieces.{Piece, statements_pieces}
use Rattle.msc_meaning.specs.Views.{body_view}
use Rattle.msc_tree.specs.Statements.{statements}
use Rattle.msc_tree.specs.Views.{statement_view}
use Rattle.level_pieces.proofs.NumberedPieces.{statements_numbered}
use Rattle.level_pieces.proofs.OperandLaws.{statements_formed}
use Rattle.level_pieces.specs.FormedPieces.{AreFormed}
use Rattle.level_pieces.specs.PieceNumbers.{AreNumbered}
use Rattle.level_pieces.specs.PieceViews.{piece_view}
use Rattle.level_weaving.specs.WeaveFaults.{IsLevelFault, IsLevelWoven}
use Rattle.level_weaving.proofs.weaving.weave.Goals as goal

pub weave_level-requires-clause-numbered : goal.weave_level-requires-clause-numbered
weave_level-requires-clause-numbered c =
    let pieces : map piece_view c.in_ok-pieces.pieces.items ≡ statements_pieces c.args.names.now 0 (statements (map statement_view c.args.list.now)) = search rules in
    subst (λ (ps : List Piece). AreNumbered 0 ps) (sym (ap (map piece_view) c.as_slice.ensures.value ∙ pieces))
    (statements_numbered c.args.names.now 0 (statements (map statement_view c.args.list.now)))

pub weave_level-requires-clause-formed : goal.weave_level-requires-clause-formed
weave_level-requires-clause-formed c =
    let pieces : map piece_view c.in_ok-pieces.pieces.items ≡ statements_pieces c.args.names.now 0 (statements (map statement_view c.args.list.now)) = search rules in
    subst (λ (ps : List Piece). AreFormed ps) (sym (ap (map piece_view) c.as_slice.ensures.value ∙ pieces))
    (statements_formed 0 Whole c.args.names.now 0 (statements (map statement_view c.args.list.now)) c.requires.formed)

pub returns-clause-ok : goal.returns-clause-ok
returns-clause-ok c =
    let pieces : map piece_view c.in_ok-pieces.pieces.items ≡ statements_pieces c.args.names.now 0 (statements (map statement_view c.args.list.now)) = search rules in
    subst (λ (ps : List Piece). IfOk c.weave_level.result (λ body. IsLevelWoven c.args.names.now ps (body_view body))) (ap (map piece_view) c.as_slice.ensures.value ∙ pieces) c.weave_level.ensures.ok

pub returns-clause-fault : goal.returns-clause-fault
returns-clause-fault c =
    let pieces : map piece_view c.in_ok-pieces.pieces.items ≡ statements_pieces c.args.names.now 0 (statements (map statement_view c.args.list.now)) = search rules in
    subst (λ (ps : List Piece). IfErr c.weave_level.result (IsLevelFault c.args.names.now ps)) (ap (map piece_view) c.as_slice.ensures.value ∙ pieces) c.weave_level.ensures.fault
