-- The way down a term to an event by which a given term is left of it, as frames from outside: a term each, and the index of its child.
use Rattle.std.specs.Prelude.{ℕ, List, [], ◌∷◌, ◌≡◌, Some}
use Rattle.certificate_accounts.specs.Ways.{way_of}
use Rattle.chart_term.specs.NormalForms.{NetPermits}
use Rattle.chart_term.specs.Tables.{Tables}
use Rattle.chart_term.specs.Terms.{TermEvent, Tree, Nil, Event}
use Rattle.chart_term.specs.Views.{event_of}
use Rattle.term_laws.specs.Permission.{permits_of}
use Rattle.term_laws.specs.Taking.{IsAfter}
use Rattle.term_step.specs.Children.{child, put}
use Rattle.term_step.specs.Searches.{AreReadyFrames, IsTaken}
use Rattle.term_step.specs.declared.ascent.Frame.{Frame}
use Rattle.term_ways.specs.declared.way.Way.{Way}

-- the indexes of the frames
abbrev pub indexes_of : List Frame → List ℕ
indexes_of [] = []
indexes_of (f ∷ fs) = f.index ∷ indexes_of fs

-- y is left of the frame's term, where this is left of its child
pub record LeavesAt (k : NetPermits) (e : TermEvent) (f : Frame) (leads : Tree → Tree → Type 0) (y : Tree) : Type 0 where
  pub inner : Tree
  pub left : Tree
  pub there : child k f.parent f.index ≡ Some inner
  pub below : leads inner left
  pub whole : put k e f.parent f.index left ≡ Some y

-- the frames lead from x down to the event, and what is left of each frame's child, put in the place of this, comes to y in the end
abbrev pub Leads : NetPermits → TermEvent → List Frame → Tree → Tree → Type 0
Leads k e [] x y = (x ≡ Event e) × (y ≡ Nil)
Leads k e (f ∷ fs) x y = (f.parent ≡ x) × LeavesAt k e f (Leads k e fs) y

-- y is left of x after the event, which is taken by these alternatives
pub record IsAfterBy (k : NetPermits) (x : Tree) (e : TermEvent) (y : Tree) (indexes : List ℕ) : Type 0 where
  pub after : IsAfter k x e y
  pub by : way_of k after ≡ indexes

-- the way goes to an event whose label has this number, by which y is left of x
pub record IsWay (w : Tables) (label : ℕ) (x y : Tree) (way : Way) : Type 0 where
  pub taken : IsTaken way.taken
  pub labelled : (event_of way.taken.event).label ≡ label
  pub leads : Leads (permits_of w) (event_of way.taken.event) way.frames.items x y
  pub after : IsAfterBy (permits_of w) x (event_of way.taken.event) y (indexes_of way.frames.items)
  pub ready : AreReadyFrames w way.frames.items

-- no event whose label has this number leaves y of x
abbrev pub LeavesNever : Tables → ℕ → Tree → Tree → Type 0
LeavesNever w label x y = (e : TermEvent) → e.label ≡ label → IsAfter (permits_of w) x e y → ⊥

-- none leaves anything of it
abbrev pub LeavesNothing : Tables → ℕ → Tree → Type 0
LeavesNothing w label x = (y : Tree) → LeavesNever w label x y
