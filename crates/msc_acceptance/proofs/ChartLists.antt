-- What charts have, as a list: each at the number of its chart.
use Rattle.std.proofs.Common.{◌≡◌, ◌<◌, ◌+◌, ℕ, zero, suc, List, [], ◌∷◌, ◌++◌, append_assoc, drop, get_or, length, map, sym, ap, ◌∙◌, arith}
use Rattle.msc_tree.specs.Charts.{Chart}
use Rattle.msc_tree.specs.Views.{chart_view}
use Rattle.msc_tree.specs.declared.chart.RawChart.{RawChart}
use Rattle.msc_acceptance.proofs.WalkLaws.{split}

at_number : {A : Type 0} (f : Chart → A) (charts : List RawChart) (i : ℕ) (c : RawChart) (x d : A) → i < length charts → c ≡ get_or charts i c → x ≡ get_or (map f (map chart_view charts)) i d → x ≡ f (chart_view c)
at_number f [] i c x d low is own = absurd (omega (arith, low))
at_number f (r ∷ charts) zero c x d low is own = own ∙ ap (λ y. f (chart_view y)) (sym is)
at_number f (r ∷ charts) (suc i) c x d low is own = at_number f charts i c x d (omega (arith, low)) is own

-- that at a chart's number is the chart's own
pub own_of : {A : Type 0} (f : Chart → A) (charts : List RawChart) (list : List A) (i j : ℕ) (c : RawChart) (x d : A) → list ≡ map f (map chart_view charts) → j ≡ i → i < length charts → c ≡ get_or charts i c → x ≡ get_or list j d
    → x ≡ f (chart_view c)
own_of f charts list i j c x d are same low is own = at_number f charts i c x d low is (own ∙ ap (λ (k : ℕ). get_or list k d) same ∙ ap (λ l. get_or l i d) are)

-- one chart's own behind those before it
pub one_more : {A : Type 0} (f : Chart → A) (charts : List RawChart) (i : ℕ) (c : RawChart) (before after all : List A) (x : A) → i < length charts → c ≡ get_or charts i c → after ≡ before ++ x ∷ [] → x ≡ f (chart_view c)
    → before ++ map f (map chart_view (drop i charts)) ≡ all → after ++ map f (map chart_view (drop (i + 1) charts)) ≡ all
one_more f charts i c before after all x low is pushed own e =
    let there : map f (map chart_view (drop i charts)) ≡ x ∷ map f (map chart_view (drop (i + 1) charts)) = ap (map f) (split charts i c low is) ∙ ap (λ y. y ∷ map f (map chart_view (drop (i + 1) charts))) (sym own) in
    ap (λ l. l ++ map f (map chart_view (drop (i + 1) charts))) pushed ∙ append_assoc before (x ∷ []) (map f (map chart_view (drop (i + 1) charts))) ∙ ap (λ l. before ++ l) (sym there) ∙ e
