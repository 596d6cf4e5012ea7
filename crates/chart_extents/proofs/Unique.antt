-- Where no two charts have one name, each comes to one extent.
use Rattle.std.proofs.Common.{◌≡◌, inl, inr, ℕ, List, [], ◌∷◌, refl, ap, ap₂, sym, subst, ◌∙◌}
use Rattle.msc_base.specs.Lists.{AreDifferent, IsAmong}
use Rattle.chart_extents.specs.Capped.{names_of}
use Rattle.chart_extents.specs.Extents.{AddsUp, HasExtent, Sized, link_and, no_link, of_chart, of_none, summaries, with_named}
use Rattle.chart_extents.specs.declared.extent.Extent.{Extent}
use Rattle.chart_links.specs.Links.{Link, depth_of, linked}
use Rattle.chart_links.specs.References.{IsCalled}

among_names : (charts : List Sized) (c : Sized) → IsAmong charts c → IsAmong (names_of charts) c.summary.name
among_names [] c m = absurd m
among_names (d ∷ ds) c (inl e) = inl (ap (λ (x : Sized). x.summary.name) e)
among_names (d ∷ ds) c (inr m) = inr (among_names ds c m)

-- two charts of one name are one
one_chart : (charts : List Sized) (c d : Sized) → AreDifferent (names_of charts) → IsAmong charts c → IsAmong charts d → c.summary.name ≡ d.summary.name → c ≡ d
one_chart [] c d a m k e = absurd m
one_chart (x ∷ xs) c d a (inl p) (inl q) e = p ∙ sym q
one_chart (x ∷ xs) c d a (inl p) (inr k) e =
    let n : d.summary.name ≡ x.summary.name = sym e ∙ ap (λ (y : Sized). y.summary.name) p in
    absurd (a.0 (subst (IsAmong (names_of xs)) n (among_names xs d k)))
one_chart (x ∷ xs) c d a (inr m) (inl q) e =
    let n : c.summary.name ≡ x.summary.name = e ∙ ap (λ (y : Sized). y.summary.name) q in
    absurd (a.0 (subst (IsAmong (names_of xs)) n (among_names xs c m)))
one_chart (x ∷ xs) c d a (inr m) (inr k) e = one_chart xs c d a.1 m k e

called_by : (charts : List Sized) (c : Sized) → IsAmong charts c → IsCalled (summaries charts) c.summary.name
called_by charts c m = record { chart = c.summary; among = among charts c m; called = refl }
  where
    among : (cs : List Sized) (x : Sized) → IsAmong cs x → IsAmong (summaries cs) x.summary
    among [] x m = absurd m
    among (y ∷ ys) x (inl e) = inl (ap (λ (z : Sized). z.summary) e)
    among (y ∷ ys) x (inr m) = inr (among ys x m)

module _ (charts : List Sized) (different : AreDifferent (names_of charts)) where
  mutual
    pub one_extent : (m n : List ℕ) (a b : Extent) → m ≡ n → HasExtent charts m a → HasExtent charts n b → a ≡ b
    one_extent m n a b e (of_none lacks x) (of_none none y) = x ∙ sym y
    one_extent m n a b e (of_none lacks x) (of_chart d dm dn t) = absurd (lacks (subst (IsCalled (summaries charts)) (dn ∙ sym e) (called_by charts d dm)))
    one_extent m n a b e (of_chart c cm cn s) (of_none lacks y) = absurd (lacks (subst (IsCalled (summaries charts)) (cn ∙ e) (called_by charts c cm)))
    one_extent m n a b e (of_chart c cm cn s) (of_chart d dm dn t) =
        let same : c ≡ d = one_chart charts c d different cm dm (cn ∙ e ∙ sym dn) in
        one_sum c.own d.own c.summary.links a b (ap (λ (x : Sized). x.own) same) s (subst (λ (l : List Link). AddsUp charts d.own l b) (sym (ap (λ (x : Sized). x.summary.links) same)) t)

    pub one_sum : (x y : Extent) (links : List Link) (a b : Extent) → x ≡ y → AddsUp charts x links a → AddsUp charts y links b → a ≡ b
    one_sum x y [] a b e no_link no_link = e
    one_sum x y (l ∷ ls) a b e (link_and {named = f} h s) (link_and {named = g} k t) =
        one_sum (with_named x (depth_of l) f) (with_named y (depth_of l) g) ls a b (ap₂ (λ (u v : Extent). with_named u (depth_of l) v) e (one_extent (linked l) (linked l) f g refl h k)) s t
