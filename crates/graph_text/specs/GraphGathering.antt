-- What a rule tells of each part of a graph's text, put together.
use Rattle.std.specs.Prelude.{◌+◌, ℕ, max, List, [], ◌∷◌}
use Rattle.graph_text.specs.GraphTexts.{GraphPart}

-- the sum of what each part counts
abbrev pub summed_parts : (GraphPart → ℕ) → List GraphPart → ℕ
summed_parts f [] = 0
summed_parts f (p ∷ ps) = f p + summed_parts f ps

-- the largest of what the parts come to
abbrev pub deepest_part : (GraphPart → ℕ) → List GraphPart → ℕ
deepest_part f [] = 0
deepest_part f (p ∷ ps) = max (f p) (deepest_part f ps)
