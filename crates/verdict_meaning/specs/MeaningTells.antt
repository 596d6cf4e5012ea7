-- What follows where a term means a set of unfoldings: runs, beginnings, sets of residual terms, verdicts.
use Rattle.std.specs.Prelude.{ℕ, List, [], ◌≡◌}
use Rattle.msc_base.specs.declared.label.Label.{Label}
use Rattle.msc_base.specs.declared.verdict.Verdict.{Verdict}
use Rattle.msc_unfolding.specs.Runs.{IsRunOf, BeginsRunOf}
use Rattle.msc_unfolding.specs.Unfoldings.{Unfolding}
use Rattle.line_events.specs.declared.event.LineEvent.{LineEvent}
use Rattle.term_tables.specs.NetValues.{NetsValue}
use Rattle.chart_term.specs.TermPatterns.{Both}
use Rattle.chart_term.specs.Terms.{Tree}
use Rattle.trace_judge.specs.Logs.{AreResiduals, BeginsTermRun, IsTermRun}
use Rattle.trace_judge.specs.Sets.{IsSoundFor, HasEnding}
use Rattle.trace_judge.specs.Verdicts.{IsTermVerdict}
use Rattle.trace_judge.specs.VerdictsBy.{Tells}
use Rattle.term_meaning.specs.Meanings.{Means}

-- where a term means a set of unfoldings its runs are theirs; after the labels of a log the set of residual terms is empty exactly where no run of the unfoldings begins
-- so, and a term of it may end exactly where the log is a run of a finished one; and the verdict tells their runs
pub record MeaningTells (finished unfolds : Unfolding → Type 0) : Type 0 where
  pub runs : (v : NetsValue) (names : List (List ℕ)) (x : Tree) → Means v names x finished unfolds → (labels : List Label) → Both (IsTermRun v x labels) (IsRunOf finished labels)
  pub begins : (v : NetsValue) (names : List (List ℕ)) (x : Tree) → Means v names x finished unfolds → (labels : List Label) → Both (BeginsTermRun v x labels) (BeginsRunOf unfolds labels)
  pub empty : (v : NetsValue) (names : List (List ℕ)) (x : Tree) → Means v names x finished unfolds → IsSoundFor v x → (labels : List Label) (set : List Tree) → AreResiduals v x labels set
      → Both (set ≡ []) (BeginsRunOf unfolds labels → ⊥)
  pub ends : (v : NetsValue) (names : List (List ℕ)) (x : Tree) → Means v names x finished unfolds → IsSoundFor v x → (labels : List Label) (set : List Tree) → AreResiduals v x labels set
      → Both (HasEnding v set) (IsRunOf finished labels)
  pub verdict : (v : NetsValue) (names : List (List ℕ)) (x : Tree) → Means v names x finished unfolds → IsSoundFor v x → (budget : ℕ) (events : List LineEvent) (verdict : Verdict)
      → IsTermVerdict v x budget events verdict → Tells (IsRunOf finished) (BeginsRunOf unfolds) events verdict
