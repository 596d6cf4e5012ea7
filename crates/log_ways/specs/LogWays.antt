-- The way of a whole log through terms: for each event the term before it, the way down to it, and the term that it left.
use Rattle.std.specs.Prelude.{ℕ, List, [], ◌∷◌, ◌≡◌, length, map}
use Rattle.certificate_accounts.specs.Paths.{Path, path_end, path_step}
use Rattle.chart_term.specs.Tables.{Tables, terms_over}
use Rattle.chart_term.specs.TermRuns.{label_of}
use Rattle.chart_term.specs.Terms.{TermEvent, Tree}
use Rattle.chart_term.specs.Views.{event_of}
use Rattle.line_events.specs.declared.event.LineEvent.{LineEvent}
use Rattle.log_ways.specs.declared.steps.StepBack.{StepBack}
use Rattle.msc_base.specs.declared.label.Label.{Label}
use Rattle.msc_base.specs.declared.verdict.Verdict.TheVariants.{Conforms}
use Rattle.term_laws.specs.Permission.{permits_of}
use Rattle.term_laws.specs.Taking.{MayEnd}
use Rattle.term_tables.specs.NetValues.{NetsValue}
use Rattle.term_ways.specs.Ways.{IsWay}
use Rattle.trace_judge.specs.Logs.{AreNumbers}
use Rattle.trace_judge.specs.Verdicts.{IsTermVerdict}

-- the numbers are those of some labels
abbrev pub AreLabelled : List Label → List ℕ → Type 0
AreLabelled table numbers = (labels : List Label) × AreNumbers table labels numbers

-- one event after another is taken, from x on: of a label with the number that stands there, by the way of the step
abbrev pub AreSteps : Tables → Tree → List ℕ → List StepBack → Type 0
AreSteps w x [] [] = Unit {0}
AreSteps w x [] (s ∷ ss) = ⊥
AreSteps w x (n ∷ ns) [] = ⊥
AreSteps w x (n ∷ ns) (s ∷ ss) = (s.before ≡ x) × IsWay w n x s.after s.way × AreSteps w s.after ns ss

-- what the last step leaves
abbrev pub last_term : Tree → List StepBack → Tree
last_term x [] = x
last_term x (s ∷ ss) = last_term s.after ss

-- the events of the steps
abbrev pub events_of : List StepBack → List TermEvent
events_of [] = []
events_of (s ∷ ss) = event_of s.way.taken.event ∷ events_of ss

-- the same as a path, each event taken by the alternatives of its way
abbrev pub path_of : (w : Tables) (x : Tree) (ns : List ℕ) (ss : List StepBack) → AreSteps w x ns ss → Path (permits_of w) x (events_of ss) (last_term x ss)
path_of w x [] [] h = path_end
path_of w x [] (s ∷ ss) h = absurd h
path_of w x (n ∷ ns) [] h = absurd h
path_of w x (n ∷ ns) (s ∷ ss) h = path_step h.1.after.after (path_of w s.after ns ss h.2)

-- the steps lead from the term through a log of labels with these numbers to a term that may end
pub record IsLogWay (w : Tables) (x : Tree) (numbers : List ℕ) (steps : List StepBack) : Type 0 where
  pub steps_are : AreSteps w x numbers steps
  pub ends : MayEnd (terms_over w) (last_term x steps)
  pub labelled : map label_of (events_of steps) ≡ numbers

-- the log conforms within the budget
abbrev pub DoesConform : NetsValue → Tree → ℕ → List LineEvent → Type 0
DoesConform v x budget events = IsTermVerdict v x budget events (Conforms (length events))
