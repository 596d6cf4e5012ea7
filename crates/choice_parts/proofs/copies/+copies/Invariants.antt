use Rattle.std.proofs.Common.{◌≡◌, map, take}
use Rattle.expansion_tree.specs.Views.{expansion_view}
use Rattle.choice_parts.proofs.copies.+copies.Given as goal

abbrev pub invariant-copied_parts-loop-part : goal.invariant-copied_parts-loop-part
invariant-copied_parts-loop-part l = map expansion_view l.copies.items ≡ map expansion_view (take l.part-index l.parts)
