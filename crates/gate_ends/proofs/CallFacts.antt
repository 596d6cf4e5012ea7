-- The calls of a level, item by item.
use Rattle.std.proofs.Common.{◌≡◌, ◌∙◌, ◌+◌, ◌<◌, ℕ, List, [], ◌∷◌, ◌++◌, sym, ap, append_assoc, append-nil, get_or, length, map, take}
use Rattle.std.proofs.lemmas.List.{take_more}
use Rattle.msc_meaning.specs.Calls.{calls, event_calls, events_calls, item_calls}
use Rattle.msc_meaning.specs.ItemViews.{items_view}
use Rattle.msc_meaning.specs.Views.{item_view, node_view}
use Rattle.msc_meaning.specs.declared.body.EventNode as rust_event
use Rattle.msc_meaning.specs.declared.body.Item as rust_item

pub events_snoc : (ns : List rust_event.EventNode) (n : rust_event.EventNode) → events_calls (map node_view (ns ++ n ∷ [])) ≡ events_calls (map node_view ns) ++ event_calls (node_view n) n.event.target
events_snoc [] n = append-nil (event_calls (node_view n) n.event.target)
events_snoc (m ∷ ns) n =
    let first = event_calls (node_view m) m.event.target in
    ap (λ l. first ++ l) (events_snoc ns n) ∙ sym (append_assoc first (events_calls (map node_view ns)) (event_calls (node_view n) n.event.target))

pub items_snoc : (xs : List rust_item.Item) (x : rust_item.Item) → calls (items_view (xs ++ x ∷ [])) ≡ calls (items_view xs) ++ item_calls (item_view x)
items_snoc [] x = append-nil (item_calls (item_view x))
items_snoc (y ∷ xs) x =
    let first = item_calls (item_view y) in
    ap (λ l. first ++ l) (items_snoc xs x) ∙ sym (append_assoc first (calls (items_view xs)) (item_calls (item_view x)))

none_more : {X R : Type 0} (all : List X → List R) (one : X → List R) → ((xs : List X) (x : X) → all (xs ++ x ∷ []) ≡ all xs ++ one x) → (xs : List X) (i : ℕ) (x : X) → i < length xs → x ≡ get_or xs i x → all (take i xs) ≡ [] → one x ≡ []
    → all (take (i + 1) xs) ≡ []
none_more all one snoc xs i x low is none also =
    ap all (take_more xs i x low ∙ ap (λ y. take i xs ++ y ∷ []) (sym is)) ∙ (snoc (take i xs) x ∙ (ap (λ l. l ++ one x) none ∙ also))

pub no_events : (ns : List rust_event.EventNode) (i : ℕ) (n : rust_event.EventNode) → i < length ns → n ≡ get_or ns i n → events_calls (map node_view (take i ns)) ≡ [] → event_calls (node_view n) n.event.target ≡ [] → events_calls (map node_view (take (i + 1) ns)) ≡ []
no_events = none_more (λ ns. events_calls (map node_view ns)) (λ (n : rust_event.EventNode). event_calls (node_view n) n.event.target) events_snoc

pub no_items : (xs : List rust_item.Item) (i : ℕ) (x : rust_item.Item) → i < length xs → x ≡ get_or xs i x → calls (items_view (take i xs)) ≡ [] → item_calls (item_view x) ≡ [] → calls (items_view (take (i + 1) xs)) ≡ []
no_items = none_more (λ xs. calls (items_view xs)) (λ (x : rust_item.Item). item_calls (item_view x)) items_snoc
