-- Serves private contracts alone.
-- Whether a row begins with a gap.
use Rattle.std.specs.Prelude.{Bool, true, false, List, [], ◌∷◌}
use Rattle.chart_term.specs.Terms.{Part, Gap, Turn}

-- the first part is a gap
abbrev pub gap_first : List Part → Bool
gap_first [] = false
gap_first (Gap c ∷ ps) = true
gap_first (Turn x ∷ ps) = false
