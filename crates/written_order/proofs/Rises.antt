-- Events that rise, one behind another.
use Rattle.std.proofs.Common.{◌≡◌, ◌∙◌, ◌<◌, ◌+◌, ℕ, suc, All, List, [], ◌∷◌, ◌++◌, sym, subst, ap, get_or, length, map, take, arith, append-nil, append_assoc}
use Rattle.std.proofs.lemmas.List.{map-append, take_more}
use Rattle.msc_base.specs.declared.label.Pair.{Pair}
use Rattle.msc_base.specs.Orders.{Among, first, later}
use Rattle.msc_meaning.specs.Bodies.{EventNode, level, WovenItem, WovenItems, item_events, items, events}
use Rattle.msc_meaning.specs.ItemViews.{items_view}
use Rattle.msc_meaning.specs.Views.{item_view, node_view}
use Rattle.msc_meaning.specs.declared.body.EventNode as rust_event
use Rattle.msc_meaning.specs.declared.body.Item as rust_item
use Rattle.written_order.specs.Rising.{AreRisingItems, IsRisingBody, RiseTo}

pub rise_both : (low mid hi : ℕ) (ks ls : List EventNode) → RiseTo low ks mid → RiseTo mid ls hi → RiseTo low (ks ++ ls) hi
rise_both low mid hi [] [] a b = let x = a in let y = b in omega (arith, x, y)
rise_both low mid hi [] (l ∷ ls) a b = let x = b.0.0 in ((omega (arith, a, x), b.0.1), b.1)
rise_both low mid hi (k ∷ ks) ls a b = (a.0, rise_both (suc k.number) mid hi ks ls a.1 b)

pub none_rise : (low : ℕ) → RiseTo low [] low
none_rise low = omega arith

pub nodes_step : (low mid hi : ℕ) (ns : List rust_event.EventNode) (i : ℕ) (n : rust_event.EventNode) → i < length ns → n ≡ get_or ns i n → RiseTo low (map node_view (take i ns)) mid → RiseTo mid (node_view n ∷ []) hi → RiseTo low (map node_view (take (i + 1) ns)) hi
nodes_step low mid hi ns i n less is a b =
    let more : map node_view (take (i + 1) ns) ≡ map node_view (take i ns) ++ node_view n ∷ [] = ap (map node_view) (take_more ns i n less ∙ ap (λ (y : rust_event.EventNode). take i ns ++ y ∷ []) (sym is)) ∙ map-append node_view (take i ns) (n ∷ []) in
    subst (λ (l : List EventNode). RiseTo low l hi) (sym more) (rise_both low mid hi (map node_view (take i ns)) (node_view n ∷ []) a b)

events_snoc : (xs : List WovenItem) (x : WovenItem) → events (items (xs ++ x ∷ [])) ≡ events (items xs) ++ item_events x
events_snoc [] x = append-nil (item_events x)
events_snoc (y ∷ xs) x = ap (λ l. item_events y ++ l) (events_snoc xs x) ∙ sym (append_assoc (item_events y) (events (items xs)) (item_events x))

pub items_step : (mid hi : ℕ) (xs : List rust_item.Item) (i : ℕ) (x : rust_item.Item) → i < length xs → x ≡ get_or xs i x → RiseTo 0 (events (items_view (take i xs))) mid → RiseTo mid (item_events (item_view x)) hi → RiseTo 0 (events (items_view (take (i + 1) xs))) hi
items_step mid hi xs i x less is a b =
    let more : map item_view (take (i + 1) xs) ≡ map item_view (take i xs) ++ item_view x ∷ [] = ap (map item_view) (take_more xs i x less ∙ ap (λ (y : rust_item.Item). take i xs ++ y ∷ []) (sym is)) ∙ map-append item_view (take i xs) (x ∷ []) in
    subst (λ (l : List EventNode). RiseTo 0 l hi) (sym (ap (λ (l : List WovenItem). events (items l)) more ∙ events_snoc (map item_view (take i xs)) (item_view x)))
    (rise_both 0 mid hi (events (items_view (take i xs))) (item_events (item_view x)) a b)

all_among : (ps : List Pair) → All (λ (p : Pair). p.first < p.second) ps → (p : Pair) → Among p ps → p.first < p.second
all_among [] h p a = elim a [ ]
all_among (q ∷ ps) h _ first = h 0 q (omega arith)
all_among (q ∷ ps) h p (later a) = all_among ps (λ k d l. h (suc k) d (omega (arith, l))) p a

pub body_rises : (cover : List (List ℕ)) (held : WovenItems) (pairs : List Pair) (hi : ℕ) → All (λ (p : Pair). p.first < p.second) pairs → RiseTo 0 (events held) hi → AreRisingItems held → IsRisingBody (level cover held pairs)
body_rises cover held pairs hi sent rise inside = (record { end = hi; rise = rise; sent = all_among pairs sent }, inside)
