-- The ties of a level at gates, item by item.
use Rattle.std.proofs.Common.{◌≡◌, ◌∙◌, ◌+◌, ◌<◌, ℕ, List, [], ◌∷◌, ◌++◌, Option, Some, None, refl, sym, ap, append_assoc, append-nil, get_or, length, map, take}
use Rattle.std.proofs.lemmas.List.{take_more}
use Rattle.msc_unfolding.specs.Unfoldings.{Tag}
use Rattle.msc_tree.specs.declared.reference.Join.{Join}
use Rattle.msc_tree.specs.declared.reference.JoinEnd.{JoinEnd}
use Rattle.msc_tree.specs.declared.reference.JoinEnd.TheVariants as join_end
use Rattle.msc_meaning.specs.Bodies.{WovenItems, no_items, item_and, Single, Coregion, Inline, Refer}
use Rattle.msc_meaning.specs.Calls.{Call, calls, event_calls, events_calls, item_calls, join_calls, joins_calls}
use Rattle.msc_meaning.specs.InnerEvents.{GateEnd}
use Rattle.msc_meaning.specs.ItemViews.{items_view}
use Rattle.msc_meaning.specs.Ties.{event_tie, event_ties, item_joins_ties, items_joins_ties, join_tie, joins_ties}
use Rattle.msc_meaning.specs.Views.{item_view, node_view}
use Rattle.msc_meaning.specs.declared.body.EventNode as rust_event
use Rattle.msc_meaning.specs.declared.body.Item as rust_item
use Rattle.gate_ends.proofs.CallFacts.{events_snoc, items_snoc}

-- one more of a list that is gone through from the first to the last
walk_more : {X R : Type 0} (all : List X → List R) (one : X → List R) → ((xs : List X) (x : X) → all (xs ++ x ∷ []) ≡ all xs ++ one x)
    → (xs : List X) (i : ℕ) (x : X) → i < length xs → x ≡ get_or xs i x → (old list new : List R) → list ≡ old ++ all (take i xs) → new ≡ list ++ one x → new ≡ old ++ all (take (i + 1) xs)
walk_more all one snoc xs i x low is old list new h k =
    k ∙ (ap (λ l. l ++ one x) h ∙ (append_assoc old (all (take i xs)) (one x)
    ∙ ap (λ l. old ++ l) (sym (ap all (take_more xs i x low ∙ ap (λ y. take i xs ++ y ∷ []) (sym is)) ∙ snoc (take i xs) x))))

ties_both : (cs ds : List Call) → event_ties (cs ++ ds) ≡ event_ties cs ++ event_ties ds
ties_both [] ds = refl
ties_both (c ∷ cs) ds = ap (λ l. event_tie c c.by ++ l) (ties_both cs ds) ∙ sym (append_assoc (event_tie c c.by) (event_ties cs) (event_ties ds))

-- ---- callers

pub events_more : (ns : List rust_event.EventNode) (i : ℕ) (n : rust_event.EventNode) → i < length ns → n ≡ get_or ns i n → (old list new : List (Tag × Tag)) → list ≡ old ++ event_ties (events_calls (map node_view (take i ns)))
    → new ≡ list ++ event_ties (event_calls (node_view n) n.event.target) → new ≡ old ++ event_ties (events_calls (map node_view (take (i + 1) ns)))
events_more = walk_more (λ ns. event_ties (events_calls (map node_view ns))) (λ (n : rust_event.EventNode). event_ties (event_calls (node_view n) n.event.target))
    (λ ns n. ap event_ties (events_snoc ns n) ∙ ties_both (events_calls (map node_view ns)) (event_calls (node_view n) n.event.target))

pub callers_more : (xs : List rust_item.Item) (i : ℕ) (x : rust_item.Item) → i < length xs → x ≡ get_or xs i x → (old list new : List (Tag × Tag)) → list ≡ old ++ event_ties (calls (items_view (take i xs)))
    → new ≡ list ++ event_ties (item_calls (item_view x)) → new ≡ old ++ event_ties (calls (items_view (take (i + 1) xs)))
callers_more = walk_more (λ xs. event_ties (calls (items_view xs))) (λ (x : rust_item.Item). event_ties (item_calls (item_view x)))
    (λ xs x. ap event_ties (items_snoc xs x) ∙ ties_both (calls (items_view xs)) (item_calls (item_view x)))

-- ---- joins

joined_snoc : (ends : List GateEnd) (xs : List rust_item.Item) (x : rust_item.Item) → items_joins_ties ends (items_view (xs ++ x ∷ [])) ≡ items_joins_ties ends (items_view xs) ++ item_joins_ties ends (item_view x)
joined_snoc ends [] x = append-nil (item_joins_ties ends (item_view x))
joined_snoc ends (y ∷ xs) x =
    ap (λ l. item_joins_ties ends (item_view y) ++ l) (joined_snoc ends xs x) ∙ sym (append_assoc (item_joins_ties ends (item_view y)) (items_joins_ties ends (items_view xs)) (item_joins_ties ends (item_view x)))

pub joined_more : (ends : List GateEnd) (xs : List rust_item.Item) (i : ℕ) (x : rust_item.Item) → i < length xs → x ≡ get_or xs i x → (old list new : List (Tag × Tag)) → list ≡ old ++ items_joins_ties ends (items_view (take i xs))
    → new ≡ list ++ item_joins_ties ends (item_view x) → new ≡ old ++ items_joins_ties ends (items_view (take (i + 1) xs))
joined_more ends = walk_more (λ xs. items_joins_ties ends (items_view xs)) (λ (x : rust_item.Item). item_joins_ties ends (item_view x)) (joined_snoc ends)

-- ---- nothing to tie

-- a join is no event that calls
no_event : (own : Option (List ℕ)) (gate : List ℕ) (to : JoinEnd) → event_ties (join_calls own gate to) ≡ []
no_event own gate (join_end.Env h) = refl
no_event None gate (join_end.Reference name h) = refl
no_event (Some own) gate (join_end.Reference name h) = refl

pub no_events : (own : Option (List ℕ)) (js : List Join) → event_ties (joins_calls own js) ≡ []
no_events own [] = refl
no_events own (j ∷ js) = ties_both (join_calls own j.gate j.to) (joins_calls own js) ∙ (ap (λ l. l ++ event_ties (joins_calls own js)) (no_event own j.gate j.to) ∙ no_events own js)

no_tie : (own gate : List ℕ) (to : JoinEnd) → join_tie [] own gate to ≡ []
no_tie own gate (join_end.Env h) = refl
no_tie own gate (join_end.Reference name h) = refl

no_ties : (name : Option (List ℕ)) (js : List Join) → joins_ties [] name js ≡ []
no_ties None js = refl
no_ties (Some own) [] = refl
no_ties (Some own) (j ∷ js) = ap (λ l. l ++ joins_ties [] (Some own) js) (no_tie own j.gate j.to) ∙ no_ties (Some own) js

pub none_joined : (xs : WovenItems) → items_joins_ties [] xs ≡ []
none_joined no_items = refl
none_joined (item_and (Single n) xs) = none_joined xs
none_joined (item_and (Coregion ns) xs) = none_joined xs
none_joined (item_and (Inline form part bs) xs) = none_joined xs
none_joined (item_and (Refer part) xs) = ap (λ l. l ++ items_joins_ties [] xs) (no_ties part.name part.joins) ∙ none_joined xs
