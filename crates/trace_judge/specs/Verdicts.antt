-- What a list of events is for a term: the verdict by the sets of residual terms, and by the term's runs.
use Rattle.std.specs.Prelude.{ℕ, ◌≡◌, ◌≤◌, List, [], ◌++◌}
use Rattle.msc_base.specs.declared.label.Label.{Label}
use Rattle.msc_base.specs.declared.verdict.Verdict.{Verdict}
use Rattle.msc_base.specs.declared.verdict.Verdict.TheVariants.{Conforms, Fails, Early, TooLarge}
use Rattle.line_events.specs.declared.event.LineEvent.{LineEvent}
use Rattle.term_tables.specs.NetValues.{NetsValue}
use Rattle.chart_term.specs.Tables.{terms_over}
use Rattle.chart_term.specs.Terms.{Tree}
use Rattle.term_laws.specs.Listing.{set_weight}
use Rattle.term_laws.specs.Taking.{MayEnd}
use Rattle.trace_judge.specs.Logs.{labels_of, IsLeft, AreResiduals, BeginsTermRun, IsTermRun, WeighsWithin, WeighsMore}
use Rattle.trace_judge.specs.VerdictsBy as by

-- something is left after these labels
pub record LeavesSome (v : NetsValue) (x : Tree) (labels : List Label) : Type 0 where
  pub term : Tree
  pub left : IsLeft v x labels term

-- something is left after these events
abbrev pub HasLeft : NetsValue → Tree → List LineEvent → Type 0
HasLeft v x events = LeavesSome v x (labels_of events)

-- something is left that may end
pub record LeavesEnding (v : NetsValue) (x : Tree) (labels : List Label) : Type 0 where
  pub term : Tree
  pub left : IsLeft v x labels term
  pub ends : MayEnd (terms_over v.tables) term

-- what is left after each prefix of the events is within the budget
abbrev pub AreWithin : NetsValue → Tree → ℕ → List LineEvent → Type 0
AreWithin v x budget events = by.StaysWithin (WeighsWithin v x budget) (WeighsMore v x budget) (LeavesEnding v x) (LeavesSome v x) events

-- the first event after which nothing is left
abbrev pub FailsAt : NetsValue → Tree → ℕ → List LineEvent → ℕ → ℕ → Type 0
FailsAt v x budget events number line = by.FailsAt (WeighsWithin v x budget) (WeighsMore v x budget) (LeavesEnding v x) (LeavesSome v x) events number line

-- the first event after which what is left passes the budget
abbrev pub PassesAt : NetsValue → Tree → ℕ → List LineEvent → ℕ → Type 0
PassesAt v x budget events number = by.PassesAt (WeighsWithin v x budget) (WeighsMore v x budget) (LeavesEnding v x) (LeavesSome v x) events number

-- the verdict on these events, by what is left of the term
abbrev pub IsTermVerdict : NetsValue → Tree → ℕ → List LineEvent → Verdict → Type 0
IsTermVerdict v x budget events verdict = by.IsVerdict (WeighsWithin v x budget) (WeighsMore v x budget) (LeavesEnding v x) (LeavesSome v x) events verdict

-- the verdict is one that more events may still change: the log conforms so far, or stops early
abbrev pub IsOpen : Verdict → Type 0
IsOpen (Conforms count) = Unit {0}
IsOpen (Fails number line) = ⊥
IsOpen (Early count) = Unit {0}
IsOpen (TooLarge number) = ⊥

-- what the verdict says of the term's runs
abbrev pub TellsRuns : NetsValue → Tree → List LineEvent → Verdict → Type 0
TellsRuns v x events verdict = by.Tells (IsTermRun v x) (BeginsTermRun v x) events verdict

-- what is left after these events and each prefix of them is within the budget, and weighs so much after them
pub record Weighs (v : NetsValue) (x : Tree) (budget : ℕ) (events : List LineEvent) (n : ℕ) : Type 0 where
  pub within : AreWithin v x budget events
  pub set : List Tree
  pub are : AreResiduals v x (labels_of events) set
  pub is : n ≡ set_weight set

-- there is a prefix of the events with this weight; where the term alone is above the budget there is none, and this is 0
pub data IsReached (v : NetsValue) (x : Tree) (budget : ℕ) (events : List LineEvent) (n : ℕ) : Type 0 where
  by_front : (prefix back : List LineEvent) → events ≡ prefix ++ back → Weighs v x budget prefix n → IsReached v x budget events n
  by_none : WeighsMore v x budget [] → n ≡ 0 → IsReached v x budget events n

-- the largest weight after a prefix of the events, as far as the budget isn't passed
pub record IsLargest (v : NetsValue) (x : Tree) (budget : ℕ) (events : List LineEvent) (n : ℕ) : Type 0 where
  pub reached : IsReached v x budget events n
  pub bound : (prefix back : List LineEvent) (m : ℕ) → events ≡ prefix ++ back → Weighs v x budget prefix m → m ≤ n
