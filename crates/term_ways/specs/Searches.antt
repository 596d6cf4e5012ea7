-- Serves private contracts alone.
-- The search for a way to any term that may be left, or to one alone.
use Rattle.std.specs.Prelude.{ℕ, List, ◌≡◌, Option, Some, None}
use Rattle.chart_term.specs.Tables.{Tables}
use Rattle.chart_term.specs.Terms.{TermEvent, Tree, Nil, Event}
use Rattle.chart_term.specs.Views.{event_of}
use Rattle.term_laws.specs.Permission.{permits_of}
use Rattle.term_step.specs.Searches.{IsTaken, put_all}
use Rattle.term_step.specs.declared.ascent.Frame.{Frame}
use Rattle.term_step.specs.declared.ascent.Taken.{Taken}
use Rattle.term_ways.specs.Ways.{IsWay, LeavesNever}
use Rattle.term_ways.specs.declared.way.Way.{Way}

-- the term is the goal, if there is one; else each serves
abbrev pub IsWanted : Option Tree → Tree → Type 0
IsWanted None z = Unit {0}
IsWanted (Some goal) z = z ≡ goal

-- the event to which the path leads leaves a wanted term of the whole
pub record Fits (w : Tables) (label : ℕ) (fs : List Frame) (x : Tree) (goal : Option Tree) (t : Taken) : Type 0 where
  pub is : x ≡ Event (event_of t.event)
  pub taken : IsTaken t
  pub labelled : (event_of t.event).label ≡ label
  pub left : Tree
  pub whole : put_all (permits_of w) (event_of t.event) fs Nil ≡ Some left
  pub wanted : IsWanted goal left

-- the term is no such event
abbrev pub FitsNot : Tables → ℕ → List Frame → Tree → Option Tree → Type 0
FitsNot w label fs x goal = (e : TermEvent) → x ≡ Event e → e.label ≡ label → (z : Tree) → IsWanted goal z → put_all (permits_of w) e fs Nil ≡ Some z → ⊥

-- the way leads to a wanted term
pub record IsWayWanted (w : Tables) (label : ℕ) (x : Tree) (goal : Option Tree) (way : Way) : Type 0 where
  pub left : Tree
  pub wanted : IsWanted goal left
  pub is_way : IsWay w label x left way

-- none is left
abbrev pub LeavesNoWanted : Tables → ℕ → Tree → Option Tree → Type 0
LeavesNoWanted w label x goal = (z : Tree) → IsWanted goal z → LeavesNever w label x z
