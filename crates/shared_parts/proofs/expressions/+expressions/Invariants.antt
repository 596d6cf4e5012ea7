use Rattle.std.proofs.Common.{◌≡◌}
use Rattle.msc_tree.specs.Views.{expression_view}
use Rattle.shared_parts.proofs.Pairs.{IsCompared}
use Rattle.shared_parts.proofs.expressions.+expressions.Given as goal

abbrev pub invariant-same_parts-loop-index : goal.invariant-same_parts-loop-index
invariant-same_parts-loop-index l = IsCompared (λ x y. expression_view x ≡ expression_view y) l.a l.b l.index
