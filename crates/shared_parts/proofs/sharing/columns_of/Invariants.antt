use Rattle.std.proofs.Common.{◌↔◌, ◌⊎◌, List, ℕ, drop, map}
use Rattle.level_pieces.specs.PieceViews.{parts_view, piece_view}
use Rattle.msc_base.specs.Lists.{IsAmong}
use Rattle.shared_parts.specs.Sharing.{StandsOne}
use Rattle.shared_parts.proofs.sharing.columns_of.Given as goal

abbrev pub invariant-loop-part : goal.invariant-loop-part
invariant-loop-part l = (i : List ℕ) → (IsAmong l.columns i ⊎ StandsOne (map piece_view (drop l.part-index l.item.others.items)) i) ↔ StandsOne (parts_view l.item) i
