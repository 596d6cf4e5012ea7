-- What is asked of an expansion is asked of its parts: room, and whole graphs.
use Rattle.std.specs.List.{slice_get}
use Rattle.std.specs.Prelude.{ℕ, zero, suc, List, [], ◌∷◌, Option, Some}
use Rattle.std.proofs.Common.{◌≡◌, ◌∙◌, sym, ap, subst}
use Rattle.msc_base.specs.Orders.{first}
use Rattle.msc_base.specs.declared.label.Pair.{Pair}
use Rattle.hmsc_graph.specs.declared.shape.Shape.{Shape}
use Rattle.expansion_tree.specs.declared.tree.ExpandedEvent.{ExpandedEvent}
use Rattle.expansion_tree.specs.declared.tree.Expansion as rust_tree
use Rattle.expansion_tree.specs.declared.tree.Expansion.TheVariants as tree
use Rattle.expansion_tree.specs.Expansions as plain
use Rattle.expansion_tree.specs.Expansions.{all_events_in, events_in}
use Rattle.expansion_tree.specs.Numbered.{Expansion, Expansions}
use Rattle.expansion_tree.specs.Views.{expansion_view, expansions_view}
use Rattle.expansion_tree.proofs.ViewFacts.{aside_is, choice_is, event_is, exception_is, row_is, tied_is, turns_is, walk_is}
use Rattle.expansion_terms.specs.MadeTerms.{HasWholeGraphs, IsWholeGraph}
use Rattle.expansion_terms.specs.PartTerms.{HaveWholeGraphs}
use Rattle.expansion_terms.specs.Stored.{AreStored, IsStored}
use Rattle.expansion_terms.proofs.Within.{among_left, among_right}

pub record IsAsked (x : Expansion) : Type 0 where
  pub stored : AreStored (events_in x)
  pub whole : HasWholeGraphs x

pub record AreAsked (xs : Expansions) : Type 0 where
  pub stored : AreStored (all_events_in xs)
  pub whole : HaveWholeGraphs xs

-- of the graph of a walk, and of what its nodes come to
pub record IsWalkAsked (g : Shape) (xs : Expansions) : Type 0 where
  pub graph : IsWholeGraph g xs
  pub nodes : AreAsked xs

-- ---- by the form of the expansion

module _ (e : rust_tree.Expansion) where
  pub event_given : (event : ExpandedEvent) → e ≡ tree.Event event → AreStored (events_in (expansion_view e)) → IsStored event
  event_given event is h = subst (λ (y : Expansion). AreStored (events_in y)) (ap expansion_view is ∙ event_is event) h event first

  part_given : (y : Expansion) (f g : rust_tree.Expansion) → expansion_view e ≡ y → g ≡ f → (IsAsked y → IsAsked (expansion_view f)) → AreStored (events_in (expansion_view e)) → HasWholeGraphs (expansion_view e) → IsAsked (expansion_view g)
  part_given y f g is same inner h i = subst (λ (x : rust_tree.Expansion). IsAsked (expansion_view x)) (sym same) (inner (subst IsAsked is (record { stored = h; whole = i })))

  parts_given : (y : Expansion) (fs gs : List rust_tree.Expansion) → expansion_view e ≡ y → gs ≡ fs → (IsAsked y → AreAsked (expansions_view fs)) → AreStored (events_in (expansion_view e)) → HasWholeGraphs (expansion_view e) → AreAsked (expansions_view gs)
  parts_given y fs gs is same inner h i = subst (λ (xs : List rust_tree.Expansion). AreAsked (expansions_view xs)) (sym same) (inner (subst IsAsked is (record { stored = h; whole = i })))

  pub row_given : (parts : _) (gs : List rust_tree.Expansion) → e ≡ tree.InRow parts → gs ≡ parts.items → AreStored (events_in (expansion_view e)) → HasWholeGraphs (expansion_view e) → AreAsked (expansions_view gs)
  row_given parts gs is same = parts_given (plain.InRow (expansions_view parts.items)) parts.items gs (ap expansion_view is ∙ row_is parts) same (λ h. record { stored = h.stored; whole = h.whole })

  pub aside_given : (parts : _) (gs : List rust_tree.Expansion) → e ≡ tree.Aside parts → gs ≡ parts.items → AreStored (events_in (expansion_view e)) → HasWholeGraphs (expansion_view e) → AreAsked (expansions_view gs)
  aside_given parts gs is same = parts_given (plain.Aside (expansions_view parts.items)) parts.items gs (ap expansion_view is ∙ aside_is parts) same (λ h. record { stored = h.stored; whole = h.whole })

  pub choice_given : (parts : _) (gs : List rust_tree.Expansion) → e ≡ tree.OneOf parts → gs ≡ parts.items → AreStored (events_in (expansion_view e)) → HasWholeGraphs (expansion_view e) → AreAsked (expansions_view gs)
  choice_given parts gs is same = parts_given (plain.OneOf (expansions_view parts.items)) parts.items gs (ap expansion_view is ∙ choice_is parts) same (λ h. record { stored = h.stored; whole = h.whole })

  pub exception_given : (part : _) (g : rust_tree.Expansion) → e ≡ tree.Exception part → g ≡ part.value → AreStored (events_in (expansion_view e)) → HasWholeGraphs (expansion_view e) → IsAsked (expansion_view g)
  exception_given part g is same = part_given (plain.Exception (expansion_view part.value)) part.value g (ap expansion_view is ∙ exception_is part) same (λ h. record { stored = h.stored; whole = h.whole })

  pub turns_given : (n lower : ℕ) (upper : Option ℕ) (part : _) (g : rust_tree.Expansion) → e ≡ tree.Turns n lower upper part → g ≡ part.value → AreStored (events_in (expansion_view e)) → HasWholeGraphs (expansion_view e) → IsAsked (expansion_view g)
  turns_given n lower upper part g is same = part_given (plain.Turns n lower upper (expansion_view part.value)) part.value g (ap expansion_view is ∙ turns_is n lower upper part) same (λ h. record { stored = h.stored; whole = h.whole })

  pub tied_given : (part : _) (pairs : List Pair) (g : rust_tree.Expansion) → e ≡ tree.Tied part pairs → g ≡ part.value → AreStored (events_in (expansion_view e)) → HasWholeGraphs (expansion_view e) → IsAsked (expansion_view g)
  tied_given part pairs g is same = part_given (plain.Tied (expansion_view part.value) pairs) part.value g (ap expansion_view is ∙ tied_is part pairs) same (λ h. record { stored = h.stored; whole = h.whole })

  pub walk_seen : (n : ℕ) (s : Shape) (parts : _) (gs : List rust_tree.Expansion) → e ≡ tree.Walk n s parts → gs ≡ parts.items → expansion_view e ≡ plain.Walk n s (expansions_view gs)
  walk_seen n s parts gs is same = ap expansion_view is ∙ (walk_is n s parts ∙ ap (λ (xs : List rust_tree.Expansion). plain.Walk n s (expansions_view xs)) (sym same))

  pub walk_given : (n : ℕ) (s : Shape) (parts : _) (gs : List rust_tree.Expansion) → e ≡ tree.Walk n s parts → gs ≡ parts.items → AreStored (events_in (expansion_view e)) → HasWholeGraphs (expansion_view e) → IsWalkAsked s (expansions_view gs)
  walk_given n s parts gs is same h i =
      let all : IsAsked (plain.Walk n s (expansions_view gs)) = subst IsAsked (walk_seen n s parts gs is same) (record { stored = h; whole = i }) in
      record { graph = all.whole.0; nodes = record { stored = all.stored; whole = all.whole.1 } }

-- ---- by the place of the part

pub part_stored : (xs : List rust_tree.Expansion) (i : ℕ) (x : rust_tree.Expansion) → slice_get xs i ≡ Some x → AreStored (all_events_in (expansions_view xs)) → AreStored (events_in (expansion_view x))
part_stored [] i x e h = absurd cc
part_stored (y ∷ xs) zero x e h =
    let same : y ≡ x = cc in
    subst (λ (z : rust_tree.Expansion). AreStored (events_in (expansion_view z))) same (λ d a. h d (among_left (events_in (expansion_view y)) (all_events_in (expansions_view xs)) d a))
part_stored (y ∷ xs) (suc i) x e h = part_stored xs i x e (λ d a. h d (among_right (events_in (expansion_view y)) (all_events_in (expansions_view xs)) d a))

pub part_whole : (xs : List rust_tree.Expansion) (i : ℕ) (x : rust_tree.Expansion) → slice_get xs i ≡ Some x → HaveWholeGraphs (expansions_view xs) → HasWholeGraphs (expansion_view x)
part_whole [] i x e h = absurd cc
part_whole (y ∷ xs) zero x e h =
    let same : y ≡ x = cc in
    subst (λ (z : rust_tree.Expansion). HasWholeGraphs (expansion_view z)) same h.0
part_whole (y ∷ xs) (suc i) x e h = part_whole xs i x e h.1
