use Rattle.std.proofs.Common.{ap}
use Rattle.level_pieces.specs.PieceViews.{setting_column}
use Rattle.shared_parts.proofs.ColumnLaws.{column_added}
use Rattle.shared_parts.proofs.sharing.add_column.Goals as goal

pub returns-in-InColumn : goal.returns-in-InColumn
returns-in-InColumn c =
    column_added c.add.result c.args.columns.now c.add.new.self c.bytes.result.now c.in-InColumn.name.now (setting_column c.args.piece.setting) c.add.ensures.ok c.bytes.ensures.bytes (ap setting_column c.in-InColumn.is)
