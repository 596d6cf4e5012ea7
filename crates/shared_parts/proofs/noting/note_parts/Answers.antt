use Rattle.std.proofs.Common.{map}
use Rattle.std.proofs.lemmas.Result.{on_ok_weaker}
use Rattle.level_pieces.specs.PieceViews.{piece_view}
use Rattle.shared_parts.proofs.LevelLaws.{parts_noted}
use Rattle.shared_parts.proofs.noting.note_parts.Goals as goal

pub returns : goal.returns
returns c =
    on_ok_weaker c.note_differing.result (λ h. parts_noted c.args.level.now (piece_view c.args.item.now.first) (map piece_view c.args.item.now.others.items) c.args.places.now (record { not_shared = c.note_unshared.new.places; differing = c.note_differing.new.places }) c.in_ok-note_unshared.ensures h) c.note_differing.ensures
