-- The laws of sets of residual terms.
use Rattle.std.specs.Prelude.{ℕ, ◌≡◌, List, [], ◌∷◌, ◌++◌}
use Rattle.msc_base.specs.declared.label.Label.{Label}
use Rattle.msc_base.specs.declared.verdict.Verdict.{Verdict}
use Rattle.line_events.specs.declared.event.LineEvent.{LineEvent}
use Rattle.term_tables.specs.NetValues.{NetsValue}
use Rattle.chart_term.specs.TermPatterns.{Both}
use Rattle.chart_term.specs.Terms.{Tree}
use Rattle.term_laws.specs.Listing.{set_weight}
use Rattle.trace_judge.specs.Logs.{AreResiduals, BeginsTermRun, IsTermRun}
use Rattle.trace_judge.specs.Sets.{IsSoundFor, AreSuccessors, GoesOnWith, HasEnding}
use Rattle.trace_judge.specs.Verdicts.{IsTermVerdict, TellsRuns}

-- before the first event only the term is left; what is left after one event more is what an event leaves of the set; all such sets of
-- one term have one weight, and each term has such a set after any labels
pub record SetsGoOn : Type 0 where
  pub start : (v : NetsValue) (x : Tree) → AreResiduals v x [] (x ∷ [])
  pub step : (v : NetsValue) (x : Tree) (labels : List Label) (label : Label) (old new : List Tree) → AreResiduals v x labels old → AreSuccessors v label old new → AreResiduals v x (labels ++ label ∷ []) new
  pub weight : (v : NetsValue) (x : Tree) (labels : List Label) (set other : List Tree) → AreResiduals v x labels set → AreResiduals v x labels other → set_weight set ≡ set_weight other

-- the set is empty exactly where no run of the term begins with the labels, and a term of it may end exactly where they are a finished run
pub record SetsTellRuns : Type 0 where
  pub empty : (v : NetsValue) (x : Tree) (labels : List Label) (set : List Tree) → IsSoundFor v x → AreResiduals v x labels set → Both (set ≡ []) (BeginsTermRun v x labels → ⊥)
  pub ends : (v : NetsValue) (x : Tree) (labels : List Label) (set : List Tree) → IsSoundFor v x → AreResiduals v x labels set → Both (HasEnding v set) (IsTermRun v x labels)

-- something is left of the set after an event with a label exactly where a run of the term begins with the labels and that one
abbrev pub SetsTellNextLabels : Type 0
SetsTellNextLabels = (v : NetsValue) (x : Tree) (labels : List Label) (label : Label) (set : List Tree) → IsSoundFor v x → AreResiduals v x labels set
    → Both (GoesOnWith v label set) (BeginsTermRun v x (labels ++ label ∷ []))

-- there is one verdict at most, and it tells the runs of the term
pub record VerdictsTellRuns : Type 0 where
  pub one : (v : NetsValue) (x : Tree) (budget : ℕ) (events : List LineEvent) (verdict other : Verdict) → IsTermVerdict v x budget events verdict → IsTermVerdict v x budget events other → verdict ≡ other
  pub runs : (v : NetsValue) (x : Tree) (budget : ℕ) (events : List LineEvent) (verdict : Verdict) → IsSoundFor v x → IsTermVerdict v x budget events verdict → TellsRuns v x events verdict
