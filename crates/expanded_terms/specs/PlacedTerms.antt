-- The instances of an event by its label: a creation has its child as its far end, and no other event has two instances.
use Rattle.std.specs.List.{slice_get}
use Rattle.std.specs.Prelude.{◌≡◌, ℕ, List, [], Option, None, Some}
use Rattle.msc_base.specs.declared.label.Far.{Far}
use Rattle.msc_base.specs.declared.label.Far.TheVariants as far
use Rattle.msc_base.specs.declared.label.Kind.{Kind}
use Rattle.msc_base.specs.declared.label.Kind.TheVariants.{Create}
use Rattle.msc_base.specs.declared.label.Label.{Label}
use Rattle.msc_unfolding.specs.Unfoldings.{Happening}
use Rattle.chart_term.specs.TermPatterns.{instances_of}
use Rattle.term_laws.specs.Placing.{IsPlaced}
use Rattle.msc_tree.specs.declared.event.Target.TheVariants.{Instance}
use Rattle.msc_meaning.specs.Bodies.{EventNode}
use Rattle.msc_meaning.specs.FarEnds.{Around, happening}
use Rattle.msc_meaning.specs.InnerEvents.{GateEnd}
use Rattle.expanded_terms.specs.NamedEvents.{event_at, event_named, name_number, number_of_label, second_number}

abbrev pub child_at : Kind → Far → Option (List ℕ)
child_at Create (far.Instance k) = Some k
child_at _ _ = None

-- the second instance that the label gives
abbrev pub child_of : Label → Option (List ℕ)
child_of l = child_at l.kind l.far

-- the label is in the table, and the second instance is the one that it gives
pub record IsPlaceable (names : List (List ℕ)) (labels : List Label) (h : Happening) : Type 0 where
  pub label : slice_get labels (number_of_label names labels h.label) ≡ Some h.label
  pub child : h.also ≡ child_of h.label

-- an event that creates names its child, and no far end is given to it from outside
pub record IsCreation (around : Around) (n : EventNode) : Type 0 where
  pub child : List ℕ
  pub target : n.event.target ≡ Instance child
  pub free : around.far n.number ≡ None

-- then its child is its far end, and other events have none
abbrev pub ChildrenAreFarEnds : Type 0
ChildrenAreFarEnds = (ends : List GateEnd) (around : Around) (n : EventNode) → (n.event.kind ≡ Create → IsCreation around n) → (happening ends around n).also ≡ child_of (happening ends around n).label

module _ (names : List (List ℕ)) (labels : List Label) where
  -- the instances that a label gives
  abbrev pub label_place : ℕ → Option Label → List ℕ
  label_place k None = []
  label_place k (Some l) = (instances_of (event_at 0 k (name_number names labels l.at) (second_number names labels (child_of l)))).instances

  abbrev pub places : ℕ → List ℕ
  places k = label_place k (slice_get labels k)

-- a placeable event stands where its label says
pub record EventsArePlaced : Type 0 where
  pub placed : (names : List (List ℕ)) (labels : List Label) (n : ℕ) (h : Happening) → IsPlaceable names labels h → IsPlaced (places names labels) (event_named names labels n h)
  pub children : ChildrenAreFarEnds
