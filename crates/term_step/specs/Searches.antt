-- Serves private contracts alone.
-- The search for the events that can be taken from a term, through its children.
use Rattle.std.specs.Prelude.{ℕ, zero, suc, ◌<◌, ◌≤◌, Bool, true, false, List, [], ◌∷◌, ◌++◌, ◌≡◌, ◌⊎◌, Option, Some, None, length, min}
use Rattle.msc_base.specs.Stored.{most_stored}
use Rattle.hmsc_graph.specs.Nets.{size_of}
use Rattle.chart_term.specs.NormalForms.{NetPermits}
use Rattle.chart_term.specs.Tables.{Tables, net_of}
use Rattle.chart_term.specs.TermPatterns.{instances_of}
use Rattle.chart_term.specs.Terms.{TermEvent, has, Tree, Nil, Event, Join, Choice, Tied, Loop, Walk, items, Part, Gap, Turn, parts}
use Rattle.chart_term.specs.Views.{event_of}
use Rattle.term_step.specs.Children.{child, put}
use Rattle.term_laws.specs.Listing.{set_weight}
use Rattle.msc_base.specs.Lists.{IsAmong}
use Rattle.term_laws.specs.Permission.{permits_of}
use Rattle.term_permission.specs.Ready.{IsReady}
use Rattle.term_permission.specs.RowRests.{RowRest, turn_before, gap_before}
use Rattle.term_successors.specs.Successors.{AreRising}
use Rattle.term_laws.specs.Taking.{IsAfter}
use Rattle.term_step.specs.declared.ascent.Frame.{Frame}
use Rattle.term_step.specs.declared.ascent.Taken.{Taken}
use Rattle.term_step.specs.declared.descent.Step.{Step}
use Rattle.term_step.specs.declared.found.Found.{Found}

-- at how many places a term may have a child
abbrev pub child_count : Tables → Tree → ℕ
child_count w Nil = 0
child_count w (Event e) = 0
child_count w (Join m xs) = length (items xs)
child_count w (Choice xs) = length (items xs)
child_count w (Tied x q) = 1
child_count w (Loop x lo hi r) = length (parts r)
child_count w (Walk n f t c) = size_of (net_of w n)

-- an event with a block of its instances alone
pub record IsTaken (t : Taken) : Type 0 where
  pub same : (n : ℕ) → has t.at.instances n ≡ has (instances_of (event_of t.event)).instances n
  pub alone : t.at.events ≡ []

-- the frames' terms are ready, and have such places
abbrev pub AreReadyFrames : Tables → List Frame → Type 0
AreReadyFrames w [] = Unit {0}
AreReadyFrames w (f ∷ fs) = IsReady w f.parent × (f.index < child_count w f.parent) × AreReadyFrames w fs

-- what is left of the frame's term where its child leaves this
abbrev pub put_some : NetPermits → TermEvent → Frame → Option Tree → Option Tree
put_some k e f None = None
put_some k e f (Some y) = put k e f.parent f.index y

-- what is left of the first frame's term where the child of the last leaves y
abbrev pub put_all : NetPermits → TermEvent → List Frame → Tree → Option Tree
put_all k e [] y = Some y
put_all k e (f ∷ fs) y = put_some k e f (put_all k e fs y)

-- the part is a gap
abbrev pub is_gap : Part → Bool
is_gap (Gap c) = true
is_gap (Turn x) = false

-- a part as it is, in front of a row's end; a gap only where further turns may begin
abbrev pub part_before : Option ℕ → Part → RowRest → RowRest
part_before hi (Turn x) r = turn_before x r
part_before None (Gap c) r = gap_before false c r
part_before (Some zero) (Gap c) r = r
part_before (Some (suc n)) (Gap c) r = gap_before false c r

-- parts as they are, in front of a row's end
abbrev pub tail_of : Option ℕ → List Part → RowRest → RowRest
tail_of hi [] r = r
tail_of hi (t ∷ ts) r = part_before hi t (tail_of hi ts r)

-- z is left of the first frame's term after an event with the label that is taken from x, the child of the last
pub record IsResult (w : Tables) (a : ℕ) (fs : List Frame) (x z : Tree) : Type 0 where
  pub event : TermEvent
  pub labelled : event.label ≡ a
  pub left : Tree
  pub taken : IsAfter (permits_of w) x event left
  pub whole : put_all (permits_of w) event fs left ≡ Some z

-- what holds of the terms that were found: they are in their order, and their weight is kept
pub record IsTally (f : Found) : Type 0 where
  pub rising : AreRising f.terms.keys
  pub weight : f.weight ≡ min (set_weight f.terms.keys) most_stored
  pub most : f.most < most_stored

-- where all were found, the weight isn't above the bound; else it is
pub record IsBounded (most : ℕ) (found : List Tree) (all : Bool) : Type 0 where
  pub within : all ≡ true → set_weight found ≤ most
  pub beyond : all ≡ false → most < set_weight found

-- the terms that were found became more by some that have the property
pub record Gains (P : Tree → Type 0) (old new : Found) : Type 0 where
  pub tally : IsTally new
  pub most : new.most ≡ old.most
  pub kept : (z : Tree) → IsAmong old.terms.keys z → IsAmong new.terms.keys z
  pub each : (z : Tree) → IsAmong new.terms.keys z → IsAmong old.terms.keys z ⊎ P z

-- a result that is ready
pub record IsFinding (w : Tables) (a : ℕ) (fs : List Frame) (x z : Tree) : Type 0 where
  pub result : IsResult w a fs x z
  pub ready : IsReady w z

-- a search through x found results alone, and all of them unless it was cut off
pub record Gathers (w : Tables) (a : ℕ) (fs : List Frame) (x : Tree) (old new : Found) (all : Bool) : Type 0 where
  pub gains : Gains (IsFinding w a fs x) old new
  pub bounded : IsBounded new.most new.terms.keys all
  pub whole : all ≡ true → (z : Tree) → IsResult w a fs x z → IsAmong new.terms.keys z

-- the same of the term itself alone, where it is an event
pub record GathersOwn (w : Tables) (a : ℕ) (fs : List Frame) (x : Tree) (old new : Found) (all : Bool) : Type 0 where
  pub gains : Gains (IsFinding w a fs x) old new
  pub bounded : IsBounded new.most new.terms.keys all
  pub whole : all ≡ true → (e : TermEvent) → x ≡ Event e → (z : Tree) → IsResult w a fs x z → IsAmong new.terms.keys z

-- nothing is left of the term after an event with the label that is taken from the child of this index
abbrev pub IsPassed : Tables → ℕ → Tree → ℕ → Type 0
IsPassed w a x p = (y : Tree) → child (permits_of w) x p ≡ Some y → (e : TermEvent) → e.label ≡ a → (u : Tree) → IsAfter (permits_of w) y e u → put (permits_of w) e x p u ≡ None

-- a child from an index on; nothing is left after an event of those in between
pub record IsStep (w : Tables) (a : ℕ) (x : Tree) (from : ℕ) (s : Step) : Type 0 where
  pub behind : from ≤ s.index
  pub there : child (permits_of w) x s.index ≡ Some s.inner
  pub passed : (p : ℕ) → from ≤ p → p < s.index → IsPassed w a x p

-- the next child to be searched; without one nothing is left after an event of those from the index on
abbrev pub IsNext : Tables → ℕ → Tree → ℕ → Option Step → Type 0
IsNext w a x from None = (p : ℕ) → from ≤ p → IsPassed w a x p
IsNext w a x from (Some s) = IsStep w a x from s

-- what is left after events of the children before an index is among the terms
abbrev pub AreSearched : Tables → ℕ → List Frame → Tree → ℕ → List Tree → Type 0
AreSearched w a fs x i zs = (p : ℕ) → p < i → (y : Tree) → child (permits_of w) x p ≡ Some y → (z : Tree) → IsResult w a (fs ++ record { parent = x; index = p } ∷ []) y z → IsAmong zs z

-- a search has come to this index of the term to which the path leads from the root
pub data IsSearched (w : Tables) (a : ℕ) (root : Tree) (zs : List Tree) : List Frame → Tree → ℕ → Type 0 where
  at_root : {fs : List Frame} {x : Tree} {i : ℕ} → fs ≡ [] → x ≡ root → AreSearched w a fs x i zs → IsSearched w a root zs fs x i
  below : {fs : List Frame} {x : Tree} {i : ℕ} (gs : List Frame) (g : Frame) → fs ≡ gs ++ g ∷ [] → child (permits_of w) g.parent g.index ≡ Some x → IsSearched w a root zs gs g.parent g.index → AreSearched w a fs x i zs → IsSearched w a root zs fs x i

-- the term isn't an event with the label
abbrev pub IsOther : ℕ → Tree → Type 0
IsOther a x = (e : TermEvent) → x ≡ Event e → e.label ≡ a → ⊥

-- the term is there once, and the others are as they were
pub record AddsOne (t : Tree) (old new : Found) (all : Bool) : Type 0 where
  pub gains : Gains (λ x. x ≡ t) old new
  pub among : IsAmong new.terms.keys t
  pub bounded : IsBounded new.most new.terms.keys all
