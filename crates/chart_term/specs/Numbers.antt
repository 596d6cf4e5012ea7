-- Serves private contracts alone.
-- The numbers of a part.
use Rattle.std.specs.Prelude.{ℕ, List, []}
use Rattle.chart_term.specs.NormalForms.{numbers}
use Rattle.chart_term.specs.Terms.{Part, Gap, Turn}

-- the numbers of a part of a row
abbrev pub part_numbers : Part → List ℕ
part_numbers (Gap c) = []
part_numbers (Turn x) = numbers x
