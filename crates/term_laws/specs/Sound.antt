-- Sound terms: those of which the laws speak.
use Rattle.std.specs.Prelude.{ℕ, true, List}
use Rattle.chart_term.specs.Tables.{Tables, terms_over}
use Rattle.chart_term.specs.TermMeanings.{HasPattern}
use Rattle.chart_term.specs.TermPatterns.{Shape}
use Rattle.chart_term.specs.TermRuns.{IsLinearRun}
use Rattle.chart_term.specs.Terms.{Tree}
use Rattle.term_laws.specs.Normality.{IsNormalOver, AreNormalTables}
use Rattle.term_laws.specs.Soundness.{AreTidyTables, IsTidyOver}

-- the pattern has a linear order of all its positions
pub record HasOrder (s : Shape) : Type 0 where
  pub run : List ℕ
  pub is : IsLinearRun s run

-- the tables are tidy, and their node terms are in normal form
pub record AreSoundTables (w : Tables) : Type 0 where
  pub tidy : AreTidyTables w
  pub normal : AreNormalTables w

-- over such tables the term is tidy and in normal form, and each of its patterns has a linear order
pub record IsSound (w : Tables) (x : Tree) : Type 0 where
  pub tables : AreSoundTables w
  pub tidy : IsTidyOver w x
  pub normal : IsNormalOver w x
  pub ordered : (s : Shape) → HasPattern (terms_over w) true x s → HasOrder s
