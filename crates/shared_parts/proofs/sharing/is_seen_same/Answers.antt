use Rattle.std.proofs.Common.{◌≡◌, ◌∙◌, IsTrue, Some, ap, ap₂, option_copied, sym}
use Rattle.level_pieces.specs.PieceViews.{piece_view, setting_column}
use Rattle.msc_instances.proofs.Meeting.{retold}
use Rattle.msc_meaning.specs.LevelItems.{cover_by, cover_of}
use Rattle.msc_meaning.specs.Pieces.{Piece}
use Rattle.shared_parts.proofs.sharing.is_seen_same.Goals as goal

pub returns-in-InColumn : goal.returns-in-InColumn
returns-in-InColumn c = λ level k.
    let p : Piece = piece_view c.args.piece in
    let same : cover_of level p ≡ cover_by level p.leads (Some c.in-InColumn.field-0.now) (option_copied c.list_of.result) =
    ap₂ (cover_by level p.leads) (ap setting_column c.in-InColumn.is) (sym c.list_of.ensures) in
    retold c.covers_these.result (λ seen. IsTrue seen → cover_by level p.leads (Some c.in-InColumn.field-0.now) (option_copied c.list_of.result) ≡ c.args.cover.now) (λ seen. IsTrue seen → cover_of level p ≡ c.args.cover.now)
    (λ seen h t. same ∙ h t) (c.covers_these.ensures level p.leads c.in-InColumn.field-0.now k)
