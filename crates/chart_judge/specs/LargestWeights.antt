-- The largest weight of what is left of a chart's term.
use Rattle.std.specs.Prelude.{ℕ, ◌≡◌, ◌≤◌, true, List, [], ◌∷◌, ◌++◌, None}
use Rattle.msc_base.specs.declared.label.Label.{Label}
use Rattle.msc_base.specs.declared.verdict.Verdict.TheVariants.{Conforms}
use Rattle.line_events.specs.declared.event.LineEvent.{LineEvent}
use Rattle.msc_meaning.specs.Tables.{Table}
use Rattle.event_log.specs.States.{IsFaultOf}
use Rattle.event_log.specs.declared.event.LogForm.{LogForm}
use Rattle.chart_term.specs.Terms.{Tree}
use Rattle.term_laws.specs.Listing.{set_weight}
use Rattle.term_tables.specs.NetValues.{NetsValue}
use Rattle.trace_judge.specs.Logs.{labels_of, AreResiduals}
use Rattle.trace_judge.specs.Verdicts.{IsLargest}
use Rattle.chart_judge.specs.ChartVerdicts.{HasTerm}
use Rattle.chart_judge.specs.Judging.{IsVerdictOn}

-- what is left of the chart's term after these labels weighs so much
pub record LeavesWeight (table : Table) (name : List ℕ) (labels : List Label) (weight : ℕ) : Type 0 where
  pub tables : NetsValue
  pub term : Tree
  pub has : HasTerm table name tables term
  pub set : List Tree
  pub are : AreResiduals tables term labels set
  pub is : weight ≡ set_weight set

-- after a prefix of the events so much is left, and after none more; the empty prefix and the whole are among them
pub record IsLargestWeight (table : Table) (name : List ℕ) (events : List LineEvent) (weight : ℕ) : Type 0 where
  pub prefix : List LineEvent
  pub back : List LineEvent
  pub are : events ≡ prefix ++ back
  pub reached : LeavesWeight table name (labels_of prefix) weight
  pub bound : (other rest : List LineEvent) (less : ℕ) → events ≡ other ++ rest → LeavesWeight table name (labels_of other) less → less ≤ weight

-- the largest weight over the events of all lines that have ended within the bytes, as far as the budget isn't passed
pub record IsLargestOn (table : Table) (name : List ℕ) (form : LogForm) (budget : ℕ) (bytes : List ℕ) (weight : ℕ) : Type 0 where
  pub log : IsFaultOf form true bytes None
  pub tables : NetsValue
  pub term : Tree
  pub has : HasTerm table name tables term
  pub largest : IsLargest tables term budget log.events weight

-- where the bytes are a log that conforms, and their last line has its end, it is the largest weight over the events of the log
abbrev pub LargestIsTold : Type 0
LargestIsTold = (table : Table) (name : List ℕ) (form : LogForm) (budget : ℕ) (bytes : List ℕ) (count weight : ℕ) → IsLargestOn table name form budget (bytes ++ 10 ∷ []) weight
    → (told : IsVerdictOn table name form budget (bytes ++ 10 ∷ []) (Conforms count)) → IsLargestWeight table name told.log.events weight
