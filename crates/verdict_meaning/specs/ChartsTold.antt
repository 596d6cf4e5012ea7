-- What the residual terms of a chart's term tell of the chart.
use Rattle.std.specs.Prelude.{◌≡◌, ℕ, List, []}
use Rattle.msc_base.specs.declared.label.Label.{Label}
use Rattle.msc_base.specs.declared.verdict.Verdict.{Verdict}
use Rattle.msc_meaning.specs.Meanings.{Finished, Begun, Conforms, Begins}
use Rattle.msc_meaning.specs.Tables.{Table}
use Rattle.line_events.specs.declared.event.LineEvent.{LineEvent}
use Rattle.chart_term.specs.TermPatterns.{Both}
use Rattle.chart_term.specs.Terms.{Tree}
use Rattle.term_tables.specs.NetValues.{NetsValue}
use Rattle.trace_judge.specs.Logs.{AreResiduals}
use Rattle.trace_judge.specs.Sets.{IsSoundFor, HasEnding}
use Rattle.trace_judge.specs.Verdicts.{IsTermVerdict}
use Rattle.trace_judge.specs.VerdictsBy.{Tells}
use Rattle.term_meaning.specs.Meanings.{Means}

-- the term means the unfoldings of the chart of that name, and is sound in full for the tables
pub record IsTermOf (table : Table) (name : List ℕ) (v : NetsValue) (names : List (List ℕ)) (x : Tree) : Type 0 where
  pub means : Means v names x (Finished table name) (Begun table name)
  pub sound : IsSoundFor v x

-- then, after the labels of a log, no term is left exactly where no run of the chart begins so, and a term that is left may end exactly
-- where the log conforms; and the verdict by residual terms says so
pub record ChartsAreTold : Type 0 where
  pub empty : (table : Table) (name : List ℕ) (v : NetsValue) (names : List (List ℕ)) (x : Tree) → IsTermOf table name v names x → (labels : List Label) (set : List Tree) → AreResiduals v x labels set
      → Both (set ≡ []) (Begins table name labels → ⊥)
  pub ends : (table : Table) (name : List ℕ) (v : NetsValue) (names : List (List ℕ)) (x : Tree) → IsTermOf table name v names x → (labels : List Label) (set : List Tree) → AreResiduals v x labels set
      → Both (HasEnding v set) (Conforms table name labels)
  pub verdict : (table : Table) (name : List ℕ) (v : NetsValue) (names : List (List ℕ)) (x : Tree) → IsTermOf table name v names x → (budget : ℕ) (events : List LineEvent) (verdict : Verdict)
      → IsTermVerdict v x budget events verdict → Tells (Conforms table name) (Begins table name) events verdict
