-- The event of a term has its number, and a label of the table.
use Rattle.std.specs.Prelude.{ℕ, ◌<◌, Bool, true, false, List, Option, None, Some, length, nat_lt}
use Rattle.std.proofs.Common.{◌≡◌, refl, sym, subst}
use Rattle.std.proofs.lemmas.Option.{slice_get_within}
use Rattle.msc_base.specs.declared.label.Label.{Label}
use Rattle.msc_unfolding.specs.Unfoldings.{Happening}
use Rattle.expanded_terms.specs.NamedEvents.{event_at_two, event_at, event_named, name_number, number_of_label, second_number, IsNameable}

module _ (names : List (List ℕ)) (labels : List Label) where
  two_number : (b : Bool) (n l i j : ℕ) → (event_at_two b n l i j).number ≡ n
  two_number true n l i j = refl
  two_number false n l i j = refl

  two_label : (b : Bool) (n l i j : ℕ) → (event_at_two b n l i j).label ≡ l
  two_label true n l i j = refl
  two_label false n l i j = refl

  at_number : (n l i : ℕ) (o : Option ℕ) → (event_at n l i o).number ≡ n
  at_number n l i None = refl
  at_number n l i (Some j) = two_number (nat_lt j i) n l i j

  at_label : (n l i : ℕ) (o : Option ℕ) → (event_at n l i o).label ≡ l
  at_label n l i None = refl
  at_label n l i (Some j) = two_label (nat_lt j i) n l i j

  pub named_number : (n : ℕ) (h : Happening) → (event_named names labels n h).number ≡ n
  named_number n h = at_number n (number_of_label names labels h.label) (name_number names labels h.label.at) (second_number names labels h.also)

  pub named_label : (n : ℕ) (h : Happening) → IsNameable names labels h → (event_named names labels n h).label < length labels
  named_label n h k = subst (λ (l : ℕ). l < length labels) (sym (at_label n (number_of_label names labels h.label) (name_number names labels h.label.at) (second_number names labels h.also)))
      (slice_get_within labels (number_of_label names labels h.label) h.label k.label)
