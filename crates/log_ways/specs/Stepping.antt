-- Serves private contracts alone.
-- One step back: from a term of a set to one of the set before it.
use Rattle.std.specs.Prelude.{ℕ, ◌≡◌, ◌<◌, List, [], ◌∷◌, ◌++◌, Option, Some, None, true, length, slice_get, reverse}
use Rattle.chart_term.specs.Tables.{Tables, terms_over}
use Rattle.chart_term.specs.TermPatterns.{Both}
use Rattle.chart_term.specs.Terms.{TermEvent, Tree}
use Rattle.log_ways.specs.LogWays.{AreSteps, last_term}
use Rattle.log_ways.specs.declared.log_way.Back.{Back}
use Rattle.log_ways.specs.declared.steps.Known.{Known}
use Rattle.log_ways.specs.declared.steps.StepBack.{StepBack}
use Rattle.log_ways.specs.declared.terms.Found.{Found}
use Rattle.msc_base.specs.Lists.{IsAmong}
use Rattle.term_laws.specs.Permission.{permits_of}
use Rattle.term_laws.specs.Taking.{IsAfter, MayEnd}
use Rattle.term_sets.specs.Memories.{set_at}
use Rattle.term_ways.specs.Ways.{IsWay}

-- the list has exactly these terms
abbrev pub AreSame : List Tree → List Tree → Type 0
AreSame terms set = (y : Tree) → Both (IsAmong terms y) (IsAmong set y)

-- an event of the label leaves the goal of one of the terms
pub record ComesFrom (w : Tables) (number : ℕ) (terms : List Tree) (goal : Tree) : Type 0 where
  pub term : Tree
  pub among : IsAmong terms term
  pub event : TermEvent
  pub labelled : event.label ≡ number
  pub after : IsAfter (permits_of w) term event goal

-- events of the label leave nothing but the goal of the term
abbrev pub LeavesOnly : Tables → ℕ → Tree → Tree → Type 0
LeavesOnly w number x goal = (e : TermEvent) → e.label ≡ number → (y : Tree) → IsAfter (permits_of w) x e y → y ≡ goal

-- so it is with each of the terms
abbrev pub LeaveOnly : Tables → ℕ → List Tree → Tree → Type 0
LeaveOnly w number terms goal = (x : Tree) → IsAmong terms x → LeavesOnly w number x goal

-- there is no other term
abbrev pub IsAlone : List Tree → Tree → Type 0
IsAlone terms x = (y : Tree) → IsAmong terms y → y ≡ x

-- the step leads from one of the terms to the goal
pub record IsStepTo (w : Tables) (number : ℕ) (terms : List Tree) (goal : Tree) (s : StepBack) : Type 0 where
  pub after : s.after ≡ goal
  pub among : IsAmong terms s.before
  pub is_way : IsWay w number s.before s.after s.way

-- a step that is known, from the set of its number
abbrev pub IsKnown : Tables → List (List Tree) → Known → Type 0
IsKnown w sets k = IsStepTo w k.label (set_at sets k.from) k.step.after k.step

abbrev pub AreKnown : Tables → List (List Tree) → List Known → Type 0
AreKnown w sets ks = (k : Known) → IsAmong ks k → IsKnown w sets k

-- the steps at these places
abbrev pub and_step : Option Known → List StepBack → List StepBack
and_step None ss = ss
and_step (Some k) ss = k.step ∷ ss

abbrev pub steps_at : List Known → List ℕ → List StepBack
steps_at ks [] = []
steps_at ks (p ∷ ps) = and_step (slice_get ks p) (steps_at ks ps)

-- the places are there
abbrev pub AreThere : List Known → List ℕ → Type 0
AreThere ks [] = Unit {0}
AreThere ks (p ∷ ps) = (p < length ks) × AreThere ks ps

-- the known steps became more, or stayed
abbrev pub Gains : List Known → List Known → Type 0
Gains old new = (more : List Known) × (new ≡ old ++ more)

-- at that place is a step from the set of that number to the goal
pub record IsPlaced (w : Tables) (number : ℕ) (terms : List Tree) (goal : Tree) (ks : List Known) (place : ℕ) : Type 0 where
  pub known : Known
  pub there : slice_get ks place ≡ Some known
  pub is_step : IsStepTo w number terms goal known.step

-- one of the terms that may end
pub record IsEnding (w : Tables) (terms : List Tree) (f : Found) : Type 0 where
  pub among : IsAmong terms f.term
  pub alone : f.alone ≡ true → IsAlone terms f.term
  pub ends : MayEnd (terms_over w) f.term

-- a step that was made of these
pub record IsMade (w : Tables) (from label : ℕ) (terms : List Tree) (goal : Tree) (k : Known) : Type 0 where
  pub from_is : k.from ≡ from
  pub label_is : k.label ≡ label
  pub step : IsStepTo w label terms goal k.step

-- at that place there is a step from the set of that number by that label to the goal
pub record IsNoted (ks : List Known) (place from label : ℕ) (goal : Tree) : Type 0 where
  pub known : Known
  pub there : slice_get ks place ≡ Some known
  pub from_is : known.from ≡ from
  pub label_is : known.label ≡ label
  pub after : known.step.after ≡ goal

-- the steps so far lead from the goal, one of the terms, through events whose labels have these numbers to a term that may end; their places
-- stand from the last event to the first
pub record IsBack (w : Tables) (sets : List (List Tree)) (terms : List Tree) (numbers : List ℕ) (b : Back) : Type 0 where
  pub known : AreKnown w sets b.steps.known.items
  pub there : AreThere b.steps.known.items (reverse b.places.items)
  pub among : IsAmong terms b.goal.term
  pub alone : b.goal.alone ≡ true → IsAlone terms b.goal.term
  pub steps : AreSteps w b.goal.term numbers (steps_at b.steps.known.items (reverse b.places.items))
  pub ends : MayEnd (terms_over w) (last_term b.goal.term (steps_at b.steps.known.items (reverse b.places.items)))
