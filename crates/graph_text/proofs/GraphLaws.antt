-- What rules tell of two lists of parts, one behind the other.
use Rattle.std.specs.Prelude.{◌+◌, ℕ, List, [], ◌∷◌, ◌++◌}
use Rattle.std.proofs.Common.{◌≡◌, arith}
use Rattle.graph_text.specs.GraphGathering.{summed_parts}
use Rattle.graph_text.specs.GraphTexts.{GraphPart}

pub summed_both : (f : GraphPart → ℕ) (xs ys : List GraphPart) → summed_parts f (xs ++ ys) ≡ summed_parts f xs + summed_parts f ys
summed_both f [] ys = omega arith
summed_both f (x ∷ xs) ys = let e = summed_both f xs ys in omega (arith, e)
