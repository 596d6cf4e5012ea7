-- Serves private contracts alone.
-- Exceptions one behind another, and what stands behind them, kept apart until one choice is made of them all.
use Rattle.std.specs.Prelude.{◌≡◌, Bool, true, false, List, [], ◌∷◌, ◌++◌}
use Rattle.msc_base.specs.Patterns.{seq}
use Rattle.chart_term.specs.NormalForms.{join_all}
use Rattle.chart_term.specs.Terms.{Tree}
use Rattle.expansion_terms.specs.Constructors.{one_of}
use Rattle.expansion_terms.specs.declared.runs.Run.{Run}

-- from the last to the first
abbrev pub turned : List Tree → List Tree
turned [] = []
turned (x ∷ xs) = turned xs ++ x ∷ []

-- one of the exceptions, which are given from the last to the first, or what stands behind them
abbrev pub run_term : List Tree → Tree → Tree
run_term [] rest = rest
run_term (x ∷ xs) rest = one_of (turned (x ∷ xs) ++ rest ∷ [])

-- one exception more in front of the run
pub record IsLonger (front : Tree) (run made : Run) : Type 0 where
  pub fronts : made.fronts ≡ run.fronts ++ front ∷ []
  pub rest : made.rest ≡ run.rest

-- this before the run, in weak sequence, and no exception before it yet
pub record IsAhead (front : Tree) (run made : Run) : Type 0 where
  pub fronts : made.fronts ≡ []
  pub rest : made.rest ≡ join_all seq (front ∷ run_term run.fronts run.rest ∷ [])

-- in place of the run where it is an exception, else before it
abbrev pub IsPlaced : Bool → Tree → Run → Run → Type 0
IsPlaced true front run made = IsLonger front run made
IsPlaced false front run made = IsAhead front run made
