-- Serves private contracts alone.
-- The search for the events that can be taken from a term.
use Rattle.std.specs.Prelude.{ℕ, ◌≡◌, ◌<◌, ◌⊎◌, List, Some, slice_get}
use Rattle.msc_base.specs.Lists.{IsAmong, IsIn}
use Rattle.chart_term.specs.Terms.{TermEvent, Tree, Event}
use Rattle.chart_term.specs.Tables.{Tables}
use Rattle.term_laws.specs.Permission.{permits_of}
use Rattle.term_laws.specs.Taking.{IsAfter}
use Rattle.term_permission.specs.Ready.{IsReady}
use Rattle.term_step.specs.Children.{child}
use Rattle.term_firsts.specs.declared.search.Search.{Search}

-- the event can be taken from the term
abbrev pub CanTake : Tables → Tree → TermEvent → Type 0
CanTake w x e = (y : Tree) × IsAfter (permits_of w) x e y

-- it can be taken from one of the terms
pub record IsInOne (w : Tables) (terms : List Tree) (e : TermEvent) : Type 0 where
  pub term : Tree
  pub among : IsAmong terms term
  pub taken : CanTake w term e

-- it can be taken from a child of the term
pub record IsInChild (w : Tables) (x : Tree) (e : TermEvent) : Type 0 where
  pub index : ℕ
  pub inner : Tree
  pub there : child (permits_of w) x index ≡ Some inner
  pub taken : CanTake w inner e

-- the search has met a label of the event, or comes to it yet
abbrev pub IsMet : Tables → Search → TermEvent → Type 0
IsMet w s e = IsAmong s.labels.items e.label ⊎ IsInOne w s.waiting.items e

-- all terms that wait can be looked into
abbrev pub AreReady : Tables → Search → Type 0
AreReady w s = (x : Tree) → IsAmong s.waiting.items x → IsReady w x

-- the search goes on with all that it had
pub record IsLater (w : Tables) (old new : Search) : Type 0 where
  pub keeps : (e : TermEvent) → IsMet w old e → IsMet w new e
  pub ready : AreReady w old → AreReady w new

-- the search waits for one term more
pub record Awaits (x : Tree) (old new : Search) : Type 0 where
  pub keeps : (w : Tables) (e : TermEvent) → IsMet w old e → IsMet w new e
  pub comes : (w : Tables) (e : TermEvent) → CanTake w x e → IsMet w new e
  pub ready : (w : Tables) → IsReady w x → AreReady w old → AreReady w new

-- the search has met one label more
pub record Meets (label : ℕ) (old new : Search) : Type 0 where
  pub keeps : (w : Tables) (e : TermEvent) → IsMet w old e → IsMet w new e
  pub comes : (w : Tables) (e : TermEvent) → e.label ≡ label → IsMet w new e
  pub ready : (w : Tables) → AreReady w old → AreReady w new

-- the search waits for all of its terms but this one
pub record Hands (x : Tree) (old new : Search) : Type 0 where
  pub rest : (w : Tables) (e : TermEvent) → IsMet w old e → CanTake w x e ⊎ IsMet w new e
  pub first : (w : Tables) → AreReady w old → IsReady w x
  pub ready : (w : Tables) → AreReady w old → AreReady w new

-- the search comes to each event that can be taken from the term
pub record Enters (w : Tables) (x : Tree) (old new : Search) : Type 0 where
  pub later : IsLater w old new
  pub comes : (e : TermEvent) → CanTake w x e → IsMet w new e

-- it comes to each that can be taken from the child of this index
pub record EntersChild (w : Tables) (x : Tree) (index : ℕ) (old new : Search) : Type 0 where
  pub later : IsLater w old new
  pub comes : (inner : Tree) → child (permits_of w) x index ≡ Some inner → (e : TermEvent) → CanTake w inner e → IsMet w new e

-- it comes to each that can be taken from one of its children
pub record EntersChildren (w : Tables) (x : Tree) (old new : Search) : Type 0 where
  pub later : IsLater w old new
  pub comes : (e : TermEvent) → IsInChild w x e → IsMet w new e

-- an event of the label and at the instance, and perhaps another
pub record IsEventOf (x : Tree) (label at : ℕ) : Type 0 where
  pub event : TermEvent
  pub is : x ≡ Event event
  pub labelled : event.label ≡ label
  pub placed : event.at ≡ at

abbrev pub IsNoEvent : Tree → Type 0
IsNoEvent x = (e : TermEvent) → x ≡ Event e → ⊥

-- each event that can be taken from the term has one of these labels
abbrev pub HaveFirst : Tables → Tree → List ℕ → Type 0
HaveFirst w x labels = (e : TermEvent) → CanTake w x e → IsAmong labels e.label

-- ---- rows

-- one of the first terms is an event at the instance
pub record IsHeldAt (terms : List Tree) (most at : ℕ) : Type 0 where
  pub index : ℕ
  pub before : index < most
  pub event : TermEvent
  pub there : slice_get terms index ≡ Some (Event event)
  pub placed : event.at ≡ at

-- the search comes to each event that can be taken from the term, unless it is at an instance that is held; only events hold more
pub record EntersBehind (w : Tables) (x : Tree) (held holds : List ℕ) (old new : Search) : Type 0 where
  pub later : IsLater w old new
  pub comes : (e : TermEvent) → CanTake w x e → IsMet w new e ⊎ IsIn e.at held
  pub holding : (at : ℕ) → IsIn at holds → IsIn at held ⊎ ((e : TermEvent) × (x ≡ Event e) × (e.at ≡ at))

-- the search has come so far in a row: to each event of the first terms, unless an event before is at its instance
pub record EntersSome (w : Tables) (terms : List Tree) (most : ℕ) (held : List ℕ) (old new : Search) : Type 0 where
  pub later : IsLater w old new
  pub comes : (i : ℕ) (x : Tree) → i < most → slice_get terms i ≡ Some x → (e : TermEvent) → CanTake w x e → IsMet w new e ⊎ IsHeldAt terms i e.at
  pub holding : (at : ℕ) → IsIn at held → IsHeldAt terms most at
