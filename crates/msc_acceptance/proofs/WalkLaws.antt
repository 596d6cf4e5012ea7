-- Walks over charts that keep the earliest place so far.
use Rattle.std.proofs.Common.{◌≡◌, ◌⊎◌, inl, inr, ℕ, ◌<◌, ◌+◌, zero, suc, Bool, true, List, [], ◌∷◌, Option, Some, None, slice_get, get_or, drop, length, map, option_map, refl, sym, subst, ap, ◌∙◌, arith}
use Rattle.std.proofs.lemmas.Option.{slice_get-map}
use Rattle.msc_base.specs.Lists.{IsAmong}
use Rattle.msc_base.specs.Places.{IsLeast, earliest_if}
use Rattle.msc_base.specs.declared.limits.TheConstants.Limits.{CHARTS}
use Rattle.msc_base.specs.declared.place.Place.{Place}
use Rattle.msc_base.proofs.PlaceFacts.{no_later_through}
use Rattle.msc_base.proofs.Narrowing.{IsReached, Narrows, earliest_is, narrows_end, narrows_part, narrows_rest, narrows_step}
use Rattle.list_facts.proofs.Reading.{drop_read, drop_end}
use Rattle.msc_tree.specs.Charts.{Chart}
use Rattle.msc_tree.specs.Views.{chart_view}
use Rattle.msc_tree.specs.declared.chart.RawChart.{RawChart}
use Rattle.chart_text.specs.WellFormed.{AreAllWellFormed, IsWellFormed}
use Rattle.msc_acceptance.specs.Deciding.{earlier_of}
use Rattle.msc_acceptance.specs.Rules.{InOne, IsFurther}

pub split : (list : List RawChart) (k : ℕ) (c : RawChart) → k < length list → c ≡ get_or list k c → map chart_view (drop k list) ≡ chart_view c ∷ map chart_view (drop (k + 1) list)
split list k c low is = ap (map chart_view) (drop_read list k c low is)

pub ended : (list : List RawChart) (k : ℕ) → (k < length list → ⊥) → map chart_view (drop k list) ≡ []
ended list k n = ap (map chart_view) (drop_end list k n)

-- one chart further, at whose place it holds or doesn't
pub walk_step : (all : Place → Type 0) (P : List Chart → Place → Type 0) (Q : Place → Type 0) (list : List RawChart) (k : ℕ) (c : RawChart) (b : Bool) (best next : Option Place)
    → k < length list → c ≡ get_or list k c
    → ((q : Place) → P (chart_view c ∷ map chart_view (drop (k + 1) list)) q → ((c.place ≡ q) × (b ≡ true)) ⊎ Q q)
    → ((q : Place) → ((c.place ≡ q) × (b ≡ true)) ⊎ Q q → P (chart_view c ∷ map chart_view (drop (k + 1) list)) q)
    → next ≡ earliest_if b best c.place → Narrows all (P (map chart_view (drop k list))) best → Narrows all Q next
walk_step all P Q list k c b best next low is to from made h =
    let now : Narrows all (P (chart_view c ∷ map chart_view (drop (k + 1) list))) best = subst (λ (cs : List Chart). Narrows all (P cs) best) (split list k c low is) h in
    let turned : Narrows all (λ q. ((c.place ≡ q) × (b ≡ true)) ⊎ Q q) best = narrows_rest all (P (chart_view c ∷ map chart_view (drop (k + 1) list))) (λ q. ((c.place ≡ q) × (b ≡ true)) ⊎ Q q) best now to from in
    subst (λ (o : Option Place). Narrows all Q o) (sym made) (narrows_step all Q best c.place b (b ≡ true) turned (λ t. t) (λ t. t))

-- the end of a walk
pub walk_end : (all : Place → Type 0) (P : List Chart → Place → Type 0) (list : List RawChart) (k : ℕ) (best : Option Place) → (k < length list → ⊥) → ((q : Place) → P [] q → ⊥)
    → Narrows all (P (map chart_view (drop k list))) best → IsLeast all best
walk_end all P list k best n none h =
    narrows_end all (P (map chart_view (drop k list))) best h (λ q g. none q (subst (λ (cs : List Chart). P cs q) (ended list k n) g))

-- ---- two places

pub earlier_least : (Part : Place → Type 0) (best found : Option Place) → IsLeast Part found → IsLeast (λ q. (best ≡ Some q) ⊎ Part q) (earlier_of best found)
earlier_least Part None None h = λ q g. elim g [ inl e ↦ cc | inr p ↦ h q p ]
earlier_least Part (Some b) None h = (inl refl, λ q g. elim g [ inl e ↦ let same : b ≡ q = cc in inr same | inr p ↦ absurd (h q p) ])
earlier_least Part best (Some p) h =
    let it = earliest_is best p in
    subst (λ (o : Option Place). IsLeast (λ q. (best ≡ Some q) ⊎ Part q) o) (sym it.1) (
      elim it.2 [ inl e ↦ inr (subst Part e h.0) | inr e ↦ inl e ],
      λ q g. elim g [
        | inl e ↦ it.4 q (subst (λ (o : Option Place). IsReached o q) (sym e) (inr refl))
        | inr m ↦ no_later_through it.0 p q it.3 (h.1 q m)
      ],
    )

pub either_least : (A B : Place → Type 0) (a b : Option Place) → IsLeast A a → IsLeast B b → IsLeast (λ q. A q ⊎ B q) (earlier_of a b)
either_least A B None None h k = λ q g. elim g [ inl x ↦ h q x | inr y ↦ k q y ]
either_least A B (Some p) None h k = (inl h.0, λ q g. elim g [ inl x ↦ h.1 q x | inr y ↦ absurd (k q y) ])
either_least A B None (Some p) h k = (inr k.0, λ q g. elim g [ inl x ↦ absurd (h q x) | inr y ↦ k.1 q y ])
either_least A B (Some o) (Some p) h k =
    let it = earliest_is (Some o) p in
    subst (λ (x : Option Place). IsLeast (λ q. A q ⊎ B q) x) (sym it.1) (
      elim it.2 [ inl e ↦ inr (subst B e k.0) | inr e ↦ let same : o ≡ it.0 = cc in inl (subst A same h.0) ],
      λ q g. elim g [
        | inl x ↦ it.4 q (h.1 q x)
        | inr y ↦ no_later_through it.0 p q it.3 (k.1 q y)
      ],
    )

-- one chart further, in which it is looked for
pub part_step : (all : Place → Type 0) (Holds : Chart → Place → Type 0) (list : List RawChart) (k : ℕ) (c : RawChart) (best found next : Option Place) → k < length list → c ≡ get_or list k c
    → IsLeast (Holds (chart_view c)) found → next ≡ earlier_of best found → Narrows all (InOne Holds (map chart_view (drop k list))) best → Narrows all (InOne Holds (map chart_view (drop (k + 1) list))) next
part_step all Holds list k c best found next low is least made h =
    let now : Narrows all (InOne Holds (chart_view c ∷ map chart_view (drop (k + 1) list))) best = subst (λ (cs : List Chart). Narrows all (InOne Holds cs) best) (split list k c low is) h in
    subst (λ (o : Option Place). Narrows all (InOne Holds (map chart_view (drop (k + 1) list))) o) (sym made)
    (narrows_part all (Holds (chart_view c)) (InOne Holds (map chart_view (drop (k + 1) list))) best (earlier_of best found) now (earlier_least (Holds (chart_view c)) best found least))

-- ---- charts of a list

among_map : (list : List RawChart) (k : ℕ) (c : RawChart) → k < length list → c ≡ get_or list k c → IsAmong (map chart_view list) (chart_view c)
among_map [] k c low is = absurd (omega arith)
among_map (d ∷ list) zero c low is = inl (ap chart_view is)
among_map (d ∷ list) (suc k) c low is = inr (among_map list k c (omega arith) is)

pub among_charts : (list : List RawChart) (k : ℕ) (c : RawChart) → k < length list → c ≡ get_or list k c → IsAmong (map chart_view list) (chart_view c)
among_charts = among_map

pub in_one : (Holds : Chart → Place → Type 0) (charts : List Chart) (c : Chart) (p : Place) → IsAmong charts c → Holds c p → InOne Holds charts p
in_one Holds [] c p m h = absurd m
in_one Holds (d ∷ charts) c p (inl e) h = inl (subst (λ (x : Chart). Holds x p) e h)
in_one Holds (d ∷ charts) c p (inr m) h = inr (in_one Holds charts c p m h)

pub one_formed : (charts : List Chart) (c : Chart) → AreAllWellFormed charts → IsAmong charts c → IsWellFormed c
one_formed [] c h m = absurd m
one_formed (d ∷ charts) c h (inl e) = subst IsWellFormed (sym e) h.0
one_formed (d ∷ charts) c h (inr m) = one_formed charts c h.1 m

pub chart_formed : (list : List RawChart) (k : ℕ) (c : RawChart) → AreAllWellFormed (map chart_view list) → k < length list → c ≡ get_or list k c → IsWellFormed (chart_view c)
chart_formed list k c formed low is = one_formed (map chart_view list) (chart_view c) formed (among_map list k c low is)

-- ---- the limit of charts

pub further_some : (list : List RawChart) (c : RawChart) → slice_get list CHARTS ≡ Some c → IsLeast (IsFurther (map chart_view list)) (Some c.place)
further_some list c at =
    let there : option_map (λ (x : Chart). x.place) (slice_get (map chart_view list) CHARTS) ≡ Some c.place = ap (option_map (λ (x : Chart). x.place)) (slice_get-map chart_view list CHARTS ∙ ap (option_map chart_view) at) in
    (there, λ q h. let same : c.place ≡ q = cc in inr same)

pub further_none : (list : List RawChart) → slice_get list CHARTS ≡ None → IsLeast (IsFurther (map chart_view list)) None
further_none list at = λ q h.
    let there : option_map (λ (x : Chart). x.place) (slice_get (map chart_view list) CHARTS) ≡ None = ap (option_map (λ (x : Chart). x.place)) (slice_get-map chart_view list CHARTS ∙ ap (option_map chart_view) at) in
    cc
