-- Events one by one.
use Rattle.std.proofs.Common.{◌≡◌, ◌∙◌, ◌<◌, ◌+◌, inl, inr, ℕ, zero, suc, Bool, filter, List, [], ◌∷◌, ◌++◌, ap, drop, get_or, length, map, take, append_assoc, Some, sym, arith}
use Rattle.std.specs.Borrow.{Bor}
use Rattle.std.proofs.lemmas.List.{map_push, take_more}
use Rattle.std.proofs.lemmas.List.Elements.{filter-append}
use Rattle.list_facts.proofs.Reading.{drop_get}
use Rattle.std.proofs.lemmas.Option.{slice_get-get_or}
use Rattle.msc_base.specs.Lists.{IsAmong}
use Rattle.msc_meaning.specs.Bodies as plain
use Rattle.msc_meaning.specs.Views.{node_view}
use Rattle.msc_meaning.specs.declared.body.EventNode.{EventNode}
use Rattle.msc_tree.specs.declared.chart.Decl.{Decl}
use Rattle.refined_events.specs.MatchViews.{nodes_view}

pub nodes_more : (ns : List (Bor EventNode)) (i : ℕ) (n : Bor EventNode) → i < length ns → n ≡ get_or ns i n → nodes_view (take (i + 1) ns) ≡ nodes_view (take i ns) ++ node_view n.now ∷ []
nodes_more ns i n low is = ap nodes_view (take_more ns i n low ∙ ap (λ (x : Bor EventNode). take i ns ++ x ∷ []) (sym is)) ∙ map_push (λ (b : Bor EventNode). node_view b.now) (take i ns) n

got : {X : Type 0} (xs : List X) (i : ℕ) (x : X) → i < length xs → x ≡ get_or xs i x → drop i xs ≡ x ∷ drop (i + 1) xs
got xs i x low is = drop_get xs i x (slice_get-get_or xs i x low ∙ ap Some (sym is))

pub nodes_left : (ns : List (Bor EventNode)) (i : ℕ) (n : Bor EventNode) → i < length ns → n ≡ get_or ns i n → nodes_view (drop i ns) ≡ node_view n.now ∷ nodes_view (drop (i + 1) ns)
nodes_left ns i n low is = ap nodes_view (got ns i n low is)

pub decl_among : (ds : List Decl) (i : ℕ) (d : Decl) → i < length ds → d ≡ get_or ds i d → IsAmong ds d
decl_among [] i d low is = absurd (omega (arith, low))
decl_among (e ∷ ds) zero d low is = inl is
decl_among (e ∷ ds) (suc i) d low is = inr (decl_among ds i d (omega (arith, low)) is)

pub pushed_left : (held : List (Bor EventNode)) (b : Bor EventNode) (ns : List EventNode) (i : ℕ) (n : EventNode) → i < length ns → n ≡ get_or ns i n → b.now ≡ n → nodes_view (held ++ b ∷ []) ++ map node_view (drop (i + 1) ns) ≡ nodes_view held ++ map node_view (drop i ns)
pushed_left held b ns i n low is same =
    ap (λ (l : List plain.EventNode). l ++ map node_view (drop (i + 1) ns)) (map_push (λ (x : Bor EventNode). node_view x.now) held b ∙ ap (λ (x : EventNode). nodes_view held ++ node_view x ∷ []) same)
    ∙ append_assoc (nodes_view held) (node_view n ∷ []) (map node_view (drop (i + 1) ns))
    ∙ ap (λ (l : List plain.EventNode). nodes_view held ++ l) (ap (map node_view) (sym (got ns i n low is)))

-- the next event, where it passes the test
pub filtered_more : (p : plain.EventNode → Bool) (ns : List (Bor EventNode)) (i : ℕ) (n : Bor EventNode) (before after : List plain.EventNode) → i < length ns → n ≡ get_or ns i n → after ≡ before ++ filter p (node_view n.now ∷ [])
    → after ++ filter p (nodes_view (drop (i + 1) ns)) ≡ before ++ filter p (nodes_view (drop i ns))
filtered_more p ns i n before after low is e =
    ap (λ (l : List plain.EventNode). l ++ filter p (nodes_view (drop (i + 1) ns))) e
    ∙ append_assoc before (filter p (node_view n.now ∷ [])) (filter p (nodes_view (drop (i + 1) ns)))
    ∙ ap (λ (l : List plain.EventNode). before ++ l) (sym (filter-append p (node_view n.now ∷ []) (nodes_view (drop (i + 1) ns))) ∙ ap (filter p) (sym (nodes_left ns i n low is)))
