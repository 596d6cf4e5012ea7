-- Runs of a term's pattern, by labels.
use Rattle.std.specs.Prelude.{ℕ, List}
use Rattle.msc_base.specs.declared.label.Label.{Label}
use Rattle.msc_base.specs.Orders.{Once}
use Rattle.msc_unfolding.specs.Runs.{IsRun}
use Rattle.msc_unfolding.specs.Unfoldings.{Unfolding, plain}
use Rattle.chart_term.specs.TermPatterns.{Shape, numbered, Both}
use Rattle.chart_term.specs.TermRuns.{IsLinearRun}
use Rattle.trace_judge.specs.Logs.{AreNumbers}
use Rattle.term_meaning.specs.Naming.{IsNamed}
use Rattle.term_meaning.specs.Standings.{Stands}

-- the labels have numbers in the table, and these are a run of the pattern
pub record NumberedRun (table : List Label) (s : Shape) (labels : List Label) : Type 0 where
  pub numbers : List ℕ
  pub are : AreNumbers table labels numbers
  pub run : IsLinearRun s numbers

-- a pattern has the runs of the unfolding for which it stands, where no label stands twice in the table
pub record StandingRuns : Type 0 where
  pub runs : (table : List Label) (names : List (List ℕ)) (s : Shape) (u : Unfolding) → Once table → Stands numbered plain (IsNamed table names) s u
      → (labels : List Label) → Both (NumberedRun table s labels) (IsRun u labels)
