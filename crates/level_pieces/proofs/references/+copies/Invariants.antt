use Rattle.std.proofs.Common.{◌≡◌, ◌++◌, drop, map}
use Rattle.msc_tree.specs.Views.{expression_view}
use Rattle.level_pieces.proofs.references.+copies.Given as goal

abbrev pub invariant-copied_parts-loop-part : goal.invariant-copied_parts-loop-part
invariant-copied_parts-loop-part l = map expression_view l.copied.items ++ map expression_view (drop l.part-index l.parts) ≡ map expression_view l.parts
