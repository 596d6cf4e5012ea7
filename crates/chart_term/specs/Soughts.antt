-- Serves private contracts alone.
-- Whether a number is among some numbers, as far as it is told.
use Rattle.std.specs.Prelude.{ℕ, ◌<◌, ◌≡◌, List}
use Rattle.chart_term.specs.NormalForms.{numbers}
use Rattle.chart_term.specs.Sizes.{nodes}
use Rattle.chart_term.specs.Terms.{has}
use Rattle.chart_term.specs.declared.term.numbers.Sought.{Sought}
use Rattle.chart_term.specs.declared.term.numbers.Sought.TheVariants as sought

-- it is told, or the number is among these exactly if it is in a term that has fewer nodes than so many
abbrev pub IsSought : List ℕ → ℕ → ℕ → Sought → Type 0
IsSought ns n k (sought.Told b) = b ≡ has ns n
IsSought ns n k (sought.In x) = (has (numbers x.now) n ≡ has ns n) × (nodes x.now < k)
