-- Walks over charts that look for those above a limit, by what is kept of each.
use Rattle.std.proofs.Common.{◌≡◌, ◌↔◌, inl, inr, ℕ, ◌+◌, ◌<◌, ◌≤◌, min, Bool, true, nat_lt, List, [], ◌∷◌, length, drop, get_or, map, Option, Some, None, slice_get, refl, ap, sym, subst, ◌∙◌, arith}
use Rattle.std.proofs.lemmas.Bool.{lt-ltb, ltb-true}
use Rattle.list_facts.proofs.Reading.{drop_end, drop_read}
use Rattle.msc_base.proofs.Narrowing.{Narrows, narrows_end, narrows_rest, narrows_step}
use Rattle.msc_base.specs.Lists.{AreDifferent}
use Rattle.msc_base.specs.Places.{IsLeast, earliest_if}
use Rattle.msc_base.specs.declared.limits.TheConstants.Limits.{EXPANDED_NESTING, EXPANDED_SIZE, TOTAL_SIZE}
use Rattle.msc_base.specs.declared.place.Place.{Place}
use Rattle.chart_extents.specs.Capped.{AreKept, capped, most, names_of}
use Rattle.chart_extents.specs.ExtentRules.{ComesTo, OneComesTo, PassesTotal}
use Rattle.chart_extents.specs.ExtentViews.{sized_view}
use Rattle.chart_extents.specs.Extents.{IsExtentOf, Sized, nothing}
use Rattle.chart_extents.specs.declared.extent.Extent.{Extent}
use Rattle.chart_extents.specs.declared.sized.SizedChart.{SizedChart}
use Rattle.chart_extents.proofs.CappedFacts.{got_mapped, read_at}
use Rattle.chart_extents.proofs.Unique.{one_sum}

-- a test agrees with one of what is cut
abbrev pub Agrees : (Extent → Type 0) → (Extent → Bool) → Type 0
Agrees Test test = (e : Extent) → (test (capped e) ≡ true) ↔ Test e

pub deep_agrees : Agrees (λ e. EXPANDED_NESTING < e.nesting) (λ e. nat_lt EXPANDED_NESTING e.nesting)
deep_agrees e = (
  λ t. let h : EXPANDED_NESTING < min e.nesting most = ltb-true _ _ t in omega (arith, h),
  λ h. lt-ltb EXPANDED_NESTING (min e.nesting most) (omega (arith, h)),
)

pub large_agrees : Agrees (λ e. EXPANDED_SIZE < e.size) (λ e. nat_lt EXPANDED_SIZE e.size)
large_agrees e = (
  λ t. let h : EXPANDED_SIZE < min e.size most = ltb-true _ _ t in omega (arith, h),
  λ h. lt-ltb EXPANDED_SIZE (min e.size most) (omega (arith, h)),
)

module _ (list : List SizedChart) (values : List Extent) (different : AreDifferent (names_of (map sized_view list))) (kept : AreKept (map sized_view list) values) where
  abbrev all : List Sized
  all = map sized_view list

  same_sum : (c : Sized) (a b : Extent) → IsExtentOf all c a → IsExtentOf all c b → a ≡ b
  same_sum c a b s t = one_sum all different c.own c.own c.summary.links a b refl s t

  comes_is : (Test : Extent → Type 0) (test : Extent → Bool) → Agrees Test test → (i : ℕ) (c : Sized) → slice_get all i ≡ Some c → (test (get_or values i nothing) ≡ true) ↔ ComesTo all c Test
  comes_is Test test agrees i c at =
      let k = kept.each i c at in (
        λ t. record { all = k.all; is = k.is; passes = (agrees k.all).0 (sym (ap test k.kept) ∙ t) },
        λ p. ap test k.kept ∙ (agrees k.all).1 (subst Test (same_sum c p.all k.all p.is k.is) p.passes),
      )

  -- one chart further
  pub limit_step : (Test : Extent → Type 0) (test : Extent → Bool) → Agrees Test test → (Holds : Place → Type 0) (i : ℕ) (chart : SizedChart) (value : Extent) (b : Bool) (best next : Option Place) → i < length list → chart ≡ get_or list i chart
      → value ≡ get_or values i nothing → b ≡ test value → next ≡ earliest_if b best chart.place
      → Narrows Holds (OneComesTo Test all (map sized_view (drop i list))) best → Narrows Holds (OneComesTo Test all (map sized_view (drop (i + 1) list))) next
  limit_step Test test agrees Holds i chart value b best next low is own tested made h =
      let now : Narrows Holds (OneComesTo Test all (sized_view chart ∷ map sized_view (drop (i + 1) list))) best = subst (λ (l : List SizedChart). Narrows Holds (OneComesTo Test all (map sized_view l)) best) (drop_read list i chart low is) h in
      let comes = comes_is Test test agrees i (sized_view chart) (got_mapped sized_view list i chart (read_at list i chart low is)) in
      let is_b : b ≡ test (get_or values i nothing) = tested ∙ ap test own in
      subst (λ (o : Option Place). Narrows Holds (OneComesTo Test all (map sized_view (drop (i + 1) list))) o) (sym made)
      (narrows_step Holds (OneComesTo Test all (map sized_view (drop (i + 1) list))) best chart.place b (ComesTo all (sized_view chart) Test) now (λ t. comes.0 (sym is_b ∙ t)) (λ p. is_b ∙ comes.1 p))

  pub limit_end : (Test : Extent → Type 0) (Holds : Place → Type 0) (i : ℕ) (best : Option Place) → length list ≤ i → Narrows Holds (OneComesTo Test all (map sized_view (drop i list))) best → IsLeast Holds best
  limit_end Test Holds i best high h =
      narrows_end Holds (OneComesTo Test all (map sized_view (drop i list))) best h (λ q a. subst (λ (l : List SizedChart). OneComesTo Test all (map sized_view l) q) (drop_end list i (λ lt. omega (arith, lt, high))) a)

  -- ---- the sum

  none_passes : (sum : ℕ) (charts : List Sized) (q : Place) → TOTAL_SIZE < sum → PassesTotal all sum charts q → ⊥
  none_passes sum [] q above h = h
  none_passes sum (c ∷ cs) q above (inl p) = omega (arith, above, p.1)
  none_passes sum (c ∷ cs) q above (inr p) = none_passes (sum + p.all.size) cs q (omega (arith, above)) p.passes

  now_at : (Holds : Place → Type 0) (i sum : ℕ) (chart : SizedChart) → i < length list → chart ≡ get_or list i chart → Narrows Holds (PassesTotal all sum (map sized_view (drop i list))) None
      → Narrows Holds (PassesTotal all sum (sized_view chart ∷ map sized_view (drop (i + 1) list))) None
  now_at Holds i sum chart low is h = subst (λ (l : List SizedChart). Narrows Holds (PassesTotal all sum (map sized_view l)) None) (drop_read list i chart low is) h

  -- the chart at which it passes
  pub total_passed : (Holds : Place → Type 0) (i sum : ℕ) (chart : SizedChart) (value : Extent) → i < length list → chart ≡ get_or list i chart → value ≡ get_or values i nothing → sum ≤ TOTAL_SIZE → TOTAL_SIZE < sum + value.size
      → Narrows Holds (PassesTotal all sum (map sized_view (drop i list))) None → IsLeast Holds (Some chart.place)
  total_passed Holds i sum chart value low is own few above h =
      let c : Sized = sized_view chart in
      let k = kept.each i c (got_mapped sized_view list i chart (read_at list i chart low is)) in
      let size : value.size ≡ min k.all.size most = ap (λ (e : Extent). e.size) (own ∙ k.kept) in
      let over : TOTAL_SIZE < sum + k.all.size = omega (arith, above, size) in
      let now = now_at Holds i sum chart low is h in (
        now.within chart.place (inl (refl, few, record { all = k.all; is = k.is; passes = over })),
        λ q a. elim (now.covers q a) [
          | inl n ↦ absurd n
          | inr r ↦ elim r [
            | inl p ↦ inr p.0
            | inr p ↦
                let same : p.all ≡ k.all = same_sum c p.all k.all p.is k.is in
                absurd (none_passes (sum + p.all.size) (map sized_view (drop (i + 1) list)) q (omega (arith, over, ap (λ (e : Extent). e.size) same)) p.passes)
          ]
        ],
      )

  -- one at which it doesn't
  pub total_step : (Holds : Place → Type 0) (i sum : ℕ) (chart : SizedChart) (value : Extent) → i < length list → chart ≡ get_or list i chart → value ≡ get_or values i nothing → sum + value.size ≤ TOTAL_SIZE
      → Narrows Holds (PassesTotal all sum (map sized_view (drop i list))) None → Narrows Holds (PassesTotal all (sum + value.size) (map sized_view (drop (i + 1) list))) None
  total_step Holds i sum chart value low is own few h =
      let c : Sized = sized_view chart in
      let rest = map sized_view (drop (i + 1) list) in
      let k = kept.each i c (got_mapped sized_view list i chart (read_at list i chart low is)) in
      let cut : value.size ≡ min k.all.size most = ap (λ (e : Extent). e.size) (own ∙ k.kept) in
      let size : value.size ≡ k.all.size = omega (arith, few, cut) in
      narrows_rest Holds (PassesTotal all sum (c ∷ rest)) (PassesTotal all (sum + value.size) rest) None (now_at Holds i sum chart low is h) (λ q r. elim r [
        | inl p ↦ let same : p.2.all ≡ k.all = same_sum c p.2.all k.all p.2.is k.is in absurd (omega (arith, p.2.passes, few, size, ap (λ (e : Extent). e.size) same))
        | inr p ↦
            let same : p.all ≡ k.all = same_sum c p.all k.all p.is k.is in
            let sum_is : sum + p.all.size ≡ sum + value.size = omega (arith, size, ap (λ (e : Extent). e.size) same) in
            subst (λ (n : ℕ). PassesTotal all n rest q) sum_is p.passes
      ]) (λ q a. inr (record { all = k.all; is = k.is; passes = let sum_is : sum + value.size ≡ sum + k.all.size = omega (arith, size) in subst (λ (n : ℕ). PassesTotal all n rest q) sum_is a }))

  pub total_end : (Holds : Place → Type 0) (i sum : ℕ) → length list ≤ i → Narrows Holds (PassesTotal all sum (map sized_view (drop i list))) None → IsLeast Holds None
  total_end Holds i sum high h =
      narrows_end Holds (PassesTotal all sum (map sized_view (drop i list))) None h (λ q a. subst (λ (l : List SizedChart). PassesTotal all sum (map sized_view l) q) (drop_end list i (λ lt. omega (arith, lt, high))) a)
