use Rattle.std.proofs.Common.{◌∙◌, List, ℕ, ap, map, subst}
use Rattle.std.specs.List.{list_any}
use Rattle.std.specs.Str.{bytes_eq}
use Rattle.level_pieces.specs.PieceViews.{piece_view}
use Rattle.level_pieces.specs.declared.pieces.Piece as code
use Rattle.shared_parts.specs.Sharing.{AllAmong, AllCover, OneCoversOthers, OneIsMissing, Tells, has_several}
use Rattle.shared_parts.proofs.SharingLaws.{sharing_is}
use Rattle.shared_parts.proofs.sharing.sharing_of.Goals as goal

pub returns : goal.returns
returns c =
    let level : List (List ℕ) = c.args.level.now in
    let cover : List (List ℕ) = c.args.cover.now in
    sharing_is level cover (piece_view c.args.item.now.first) (map piece_view c.args.item.now.others.items) c.in_ok-columns.columns c.requires c.in_ok-columns.ensures c.in_ok-same.same
    c.all_among-stand.result (record { all_break = c.one_fails.result; several = c.are_several.result; names = c.in_ok-names.names })
    (subst (λ (ps : List code.Piece). Tells c.in_ok-same.same (AllCover level cover (map piece_view ps)) (OneCoversOthers level cover (map piece_view ps))) c.as_slice-2.ensures.value c.in_ok-same.ensures)
    (subst (λ (l : List (List ℕ)). Tells c.all_among-stand.result (AllAmong c.in_ok-columns.columns l) (OneIsMissing c.in_ok-columns.columns l)) c.as_slice-3.ensures c.all_among-stand.ensures)
    c.one_fails.ensures (c.are_several.ensures ∙ ap has_several c.as_slice-4.ensures) (λ i. c.in_ok-names.ensures.has i ∙ ap (list_any (bytes_eq i)) c.as_slice.ensures)
