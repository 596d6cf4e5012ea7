-- The residual terms after a list of labels.
use Rattle.std.specs.Prelude.{ℕ, List, [], ◌∷◌, ◌++◌, true, false}
use Rattle.chart_term.specs.NormalForms.{NetPermits}
use Rattle.chart_term.specs.Terms.{TermEvent, Tree}
use Rattle.term_laws.specs.Taking.{IsAfter, MayEnd}
use Rattle.chart_term.specs.Tables.{Tables, terms_over}
use Rattle.term_laws.specs.Permission.{permits_of}
use Rattle.chart_term.specs.TermPatterns.{Shape}
use Rattle.chart_term.specs.TermMeanings.{HasPattern}
use Rattle.chart_term.specs.TermRuns.{IsLinearRun}

-- the terms that are left after the labels
pub data IsResidual (k : NetPermits) : Tree → List ℕ → Tree → Type 0 where
  res_none : {x : Tree} → IsResidual k x [] x
  res_more : {x y z : Tree} {e : TermEvent} {l : List ℕ} → IsAfter k x e y → IsResidual k y l z → IsResidual k x (e.label ∷ l) z

-- a term is left after the labels
pub record HasResidual (w : Tables) (x : Tree) (labels : List ℕ) : Type 0 where
  pub term : Tree
  pub left : IsResidual (permits_of w) x labels term

-- a term is left that may end
pub record MayEndAfter (w : Tables) (x : Tree) (labels : List ℕ) : Type 0 where
  pub term : Tree
  pub left : IsResidual (permits_of w) x labels term
  pub ends : MayEnd (terms_over w) term

-- a run of one of the term's patterns begins with the labels; patterns of walks under way count
pub record BeginsRun (w : Tables) (x : Tree) (labels : List ℕ) : Type 0 where
  pub pattern : Shape
  pub has : HasPattern (terms_over w) true x pattern
  pub rest : List ℕ
  pub run : IsLinearRun pattern (labels ++ rest)

-- the labels are a run of one of the term's finished patterns
pub record IsFinishedRun (w : Tables) (x : Tree) (labels : List ℕ) : Type 0 where
  pub pattern : Shape
  pub has : HasPattern (terms_over w) false x pattern
  pub run : IsLinearRun pattern labels
