-- The events of a chart's term stand where their labels say.
use Rattle.std.specs.Option.{unwrap_or}
use Rattle.std.specs.Prelude.{ℕ, Bool, true, false, List, Option, None, Some, nat_lt}
use Rattle.std.proofs.Common.{◌≡◌, ◌∙◌, refl, sym, ap}
use Rattle.msc_base.specs.declared.label.Kind.{Kind}
use Rattle.msc_base.specs.declared.label.Kind.TheVariants as kind
use Rattle.msc_base.specs.declared.label.Far.{Far}
use Rattle.msc_base.specs.declared.label.Far.TheVariants as far
use Rattle.msc_base.specs.declared.label.Label.{Label}
use Rattle.msc_unfolding.specs.Unfoldings.{Happening}
use Rattle.chart_term.specs.TermPatterns.{instances_of}
use Rattle.term_laws.specs.Placing.{IsPlaced}
use Rattle.msc_tree.specs.declared.event.Target.{Target}
use Rattle.msc_tree.specs.declared.event.Target.TheVariants.{Instance}
use Rattle.msc_meaning.specs.FarEnds.{child_by, written_far, far_end}
use Rattle.expanded_terms.specs.NamedEvents.{event_at_two, event_at, name_number, number_of_label, second_number, event_named}
use Rattle.expanded_terms.specs.PlacedTerms.{child_at, child_of, label_place, places, IsPlaceable, IsCreation, ChildrenAreFarEnds, EventsArePlaced}

module _ (names : List (List ℕ)) (labels : List Label) where
  -- the instances of an event aren't changed by its number or label
  two_instances : (b : Bool) (n k m l i j : ℕ) → (instances_of (event_at_two b n l i j)).instances ≡ (instances_of (event_at_two b k m i j)).instances
  two_instances true n k m l i j = refl
  two_instances false n k m l i j = refl

  any_number : (n k l m i : ℕ) (o : Option ℕ) → (instances_of (event_at n l i o)).instances ≡ (instances_of (event_at k m i o)).instances
  any_number n k l m i None = refl
  any_number n k l m i (Some j) = two_instances (nat_lt j i) n k m l i j

  two_label : (b : Bool) (n l i j : ℕ) → (event_at_two b n l i j).label ≡ l
  two_label true n l i j = refl
  two_label false n l i j = refl

  at_label : (n l i : ℕ) (o : Option ℕ) → (event_at n l i o).label ≡ l
  at_label n l i None = refl
  at_label n l i (Some j) = two_label (nat_lt j i) n l i j

  event_placed : (n : ℕ) (h : Happening) → IsPlaceable names labels h → IsPlaced (places names labels) (event_named names labels n h)
  event_placed n h p =
      let l = number_of_label names labels h.label in
      let i = name_number names labels h.label.at in
      let o = second_number names labels h.also in
      ap (places names labels) (at_label n l i o)
      ∙ (ap (label_place names labels l) p.label
      ∙ (any_number 0 n l l i (second_number names labels (child_of h.label))
      ∙ ap (λ (c : Option (List ℕ)). (instances_of (event_at n l i (second_number names labels c))).instances) (sym p.child)))

-- ---- children are far ends

-- a kind's second instance, and that by the far end
by_kind : (k : Kind) (t : Target) (f : Far) → (k ≡ kind.Create → (c : List ℕ) × ((t ≡ Instance c) × (f ≡ far.Instance c))) → child_by k t ≡ child_at k f
by_kind kind.Create t f h = let (c, p) = h refl in let (e, g) = p in ap (child_by kind.Create) e ∙ sym (ap (child_at kind.Create) g)
by_kind kind.Output t f h = refl
by_kind kind.Input t f h = refl
by_kind kind.OutputLost t f h = refl
by_kind kind.InputFound t f h = refl
by_kind kind.Action t f h = refl
by_kind kind.TimerStart t f h = refl
by_kind kind.TimerStop t f h = refl
by_kind kind.Timeout t f h = refl

children : ChildrenAreFarEnds
children ends around n creates = by_kind n.event.kind n.event.target (far_end ends around n) (λ e. let c = creates e in (c.child, (c.target, at c)))
  where
    at : (c : IsCreation around n) → far_end ends around n ≡ far.Instance c.child
    at c = ap (λ (o : Option Far). unwrap_or o (written_far ends around.gates n.event.target)) c.free ∙ ap (written_far ends around.gates) c.target

pub events_are_placed : EventsArePlaced
events_are_placed = record { placed = event_placed; children = children }
