-- When patterns, and a term, mean a set of unfoldings.
use Rattle.std.specs.Prelude.{ℕ, Bool, true, false, List}
use Rattle.msc_base.specs.Orders.{Once}
use Rattle.msc_unfolding.specs.Unfoldings.{Happening, Unfolding, plain}
use Rattle.term_tables.specs.NetValues.{NetsValue}
use Rattle.chart_term.specs.Tables.{terms_over}
use Rattle.chart_term.specs.TermMeanings.{HasPattern}
use Rattle.chart_term.specs.TermPatterns.{Shape, numbered}
use Rattle.chart_term.specs.Terms.{TermEvent, Tree}
use Rattle.term_meaning.specs.Naming.{IsNamed}
use Rattle.term_meaning.specs.Standings.{Stands}

-- one of these unfoldings for which the pattern stands
pub record StandsForOne (Same : TermEvent → Happening → Type 0) (unfolds : Unfolding → Type 0) (s : Shape) : Type 0 where
  pub of : Unfolding
  pub is : unfolds of
  pub stands : Stands numbered plain Same s of

-- one of these patterns that stands for the unfolding
pub record IsStoodFor (Same : TermEvent → Happening → Type 0) (patterns : Shape → Type 0) (u : Unfolding) : Type 0 where
  pub pattern : Shape
  pub is : patterns pattern
  pub stands : Stands numbered plain Same pattern u

-- each of these patterns stands for one of these unfoldings, and one of them for each unfolding
pub record Mean (Same : TermEvent → Happening → Type 0) (patterns : Shape → Type 0) (unfolds : Unfolding → Type 0) : Type 0 where
  pub each : (s : Shape) → patterns s → StandsForOne Same unfolds s
  pub all : (u : Unfolding) → unfolds u → IsStoodFor Same patterns u

-- the patterns of the term mean these unfoldings, with these names of the instances; finished ones, or also those of walks under way
abbrev pub MeansUnfoldings : NetsValue → List (List ℕ) → Bool → Tree → (Unfolding → Type 0) → Type 0
MeansUnfoldings v names o x unfolds = Mean (IsNamed v.labels names) (HasPattern (terms_over v.tables) o x) unfolds

-- the term, over a table in which no label stands twice, means these finished unfoldings, and these where walks under way count
pub record Means (v : NetsValue) (names : List (List ℕ)) (x : Tree) (finished unfolds : Unfolding → Type 0) : Type 0 where
  pub once : Once v.labels
  pub finished_ones : MeansUnfoldings v names false x finished
  pub all_ones : MeansUnfoldings v names true x unfolds
