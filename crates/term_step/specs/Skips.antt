-- Serves private contracts alone.
-- What a search for a label passes over, and why nothing is lost by it.
use Rattle.std.specs.Prelude.{ℕ, ◌<◌, ◌≤◌, true, List, [], ◌∷◌, ◌≡◌, ◌⊎◌, Option, Some, None, length, slice_get, IfSome}
use Rattle.chart_term.specs.NormalForms.{NetPermits, begun, only}
use Rattle.chart_term.specs.PartLists.{ArePassed}
use Rattle.chart_term.specs.Properties.{Every}
use Rattle.chart_term.specs.TermPatterns.{instances_of}
use Rattle.chart_term.specs.Tables.{Tables}
use Rattle.chart_term.specs.Terms.{TermEvent, has, Tree, Part, Turn}
use Rattle.chart_term.specs.Views.{event_of}
use Rattle.term_step.specs.declared.ascent.Frame.{Frame}
use Rattle.term_step.specs.declared.ascent.Taken.{Taken}
use Rattle.term_step.specs.declared.descent.Step.{Step}
use Rattle.term_laws.specs.Permission.{permit}
use Rattle.term_laws.specs.Placing.{AreEventsPlaced, AreNetsPlaced, IsPlaced}

-- the event is at these instances alone
abbrev pub IsAt : List ℕ → TermEvent → Type 0
IsAt c e = (n : ℕ) → has (instances_of e).instances n ≡ true → has c n ≡ true

-- a turn before the index of which nothing is left where nothing happens at the event's instances
pub record IsHeldBefore (k : NetPermits) (ps : List Part) (from : ℕ) (e : TermEvent) : Type 0 where
  pub index : ℕ
  pub turn : Tree
  pub before : index < from
  pub there : slice_get ps index ≡ Some (Turn turn)
  pub held : permit k (only (instances_of e).instances) turn ≡ None

-- each event that is at these instances alone is held before the index
pub record IsSkip (k : NetPermits) (ps : List Part) (from : ℕ) (c : List ℕ) : Type 0 where
  pub all : (e : TermEvent) → IsAt c e → IsHeldBefore k ps from e

-- the last event that was met is held before the index, as is each event at its instances, which these are
pub record IsHolding (k : NetPermits) (ps : List Part) (from : ℕ) (met : Option Taken) (c : List ℕ) : Type 0 where
  pub skip : IsSkip k ps from c
  pub event : Taken
  pub is_met : met ≡ Some event
  pub same : (n : ℕ) → has c n ≡ has event.at.instances n

-- it is held so at some instances
abbrev pub HoldsOne : NetPermits → List Part → ℕ → Option Taken → Type 0
HoldsOne k ps from met = (c : List ℕ) × IsHolding k ps from met c

-- the event has the label, and is at the label's instances
abbrev pub IsMetAt : (ℕ → List ℕ) → ℕ → Taken → Type 0
IsMetAt places a t = IsPlaced places (event_of t.event) × (t.event.label ≡ a)

-- events of one label have the same instances, in the nets and the term; the last event that was met is one of them, and has the label
pub record ArePlaced (w : Tables) (a : ℕ) (x : Tree) (met : Option Taken) : Type 0 where
  pub places : ℕ → List ℕ
  pub nets : AreNetsPlaced places w
  pub term : AreEventsPlaced places x
  pub met_at : IfSome met (IsMetAt places a)

abbrev pub AreFramesPlaced : (ℕ → List ℕ) → List Frame → Type 0
AreFramesPlaced places [] = Unit {0}
AreFramesPlaced places (f ∷ fs) = AreEventsPlaced places f.parent × AreFramesPlaced places fs

-- so do those of the frames' terms
pub record IsSearchPlaced (w : Tables) (a : ℕ) (fs : List Frame) (x : Tree) (met : Option Taken) : Type 0 where
  pub here : ArePlaced w a x met
  pub frames : AreFramesPlaced here.places fs

-- the next turn of a list that a search doesn't pass over
abbrev pub IsNextPart : List Part → ℕ → ℕ → List ℕ → Option Step → Type 0
IsNextPart ps from a c None = ArePassed a c ps from (length ps)
IsNextPart ps from a c (Some s) = (from ≤ s.index) × ArePassed a c ps from s.index × (slice_get (begun ps) s.index ≡ Some s.inner)

-- no event of the term has the label, and no net is in it
abbrev pub HasNone : ℕ → Tree → Type 0
HasNone a x = Every (λ e. e.label ≡ a → ⊥) (λ n. ⊥) x

-- the child; or none, where there is none or it has no event with the label
abbrev pub IsChildOr : ℕ → Option Tree → Option Tree → Type 0
IsChildOr a o None = (y : Tree) → o ≡ Some y → HasNone a y
IsChildOr a o (Some x) = o ≡ Some x

-- the term below a tie, where the index is its; or none, where it isn't, or no event of the term has the label
abbrev pub IsBelowTie : ℕ → Tree → ℕ → Option Step → Type 0
IsBelowTie a x from None = (0 < from) ⊎ HasNone a x
IsBelowTie a x from (Some s) = (from ≡ 0) × (s.index ≡ 0) × (s.inner ≡ x)
