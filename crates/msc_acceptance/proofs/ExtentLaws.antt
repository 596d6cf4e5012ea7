-- What the expansions of charts come to: each chart that one names is there, less deep than so, and what a chart is woven to, with all that it
-- names, is no larger than its text comes to.
use Rattle.std.proofs.Common.{◌≡◌, ◌≤◌, ◌<◌, ◌+◌, ◌⊎◌, inl, inr, ℕ, zero, suc, Bool, true, false, List, [], ◌∷◌, Some, map, slice_get, slice_index_or, refl, sym, subst, ap, ap₂, ◌∙◌, arith}
use Rattle.std.specs.Str.{bytes_eq}
use Rattle.std.proofs.lemmas.Slice.Eq.{bytes_eq-Decides}
use Rattle.std.proofs.lemmas.Bool.{cases_lt}
use Rattle.chart_extents.specs.ExtentRules.{ComesTo, IsTooDeep, IsTooLarge, OneComesTo}
use Rattle.chart_extents.specs.Extents.{AddsUp, HasExtent, IsExtentOf, Sized, link_and, no_link, of_chart, of_none, sized_charts, sized_from, sized_of, with_named}
use Rattle.chart_extents.specs.declared.extent.Extent.{Extent}
use Rattle.chart_links.specs.Links.{Link, chart_links, depth_of, linked, place_of}
use Rattle.chart_links.specs.References.{AtLink, AtLinks, IsCalled, LinkMisses, MissesChart}
use Rattle.chart_links.specs.Summaries.{Summary, summary_of}
use Rattle.msc_base.specs.Lists.{IsAmong}
use Rattle.msc_base.specs.declared.limits.TheConstants.Limits.{EXPANDED_NESTING, EXPANDED_SIZE}
use Rattle.msc_base.specs.declared.place.Place.{Place}
use Rattle.msc_tree.specs.Charts.{Chart}
use Rattle.woven_laws.specs.BuiltCharts.{link_size, named_size}
use Rattle.msc_acceptance.proofs.LinkLaws.{sized_summaries}

-- ---- links and extents

-- what is named adds to what the chart comes to
pub nests_from : (all : List Sized) (start : Extent) (links : List Link) (end : Extent) → AddsUp all start links end → start.nesting ≤ end.nesting
nests_from all start [] end no_link = omega arith
nests_from all start (l ∷ links) end (link_and {named = e} h s) = let more = nests_from all (with_named start (depth_of l) e) links end s in omega (arith, more)

pub nests_link : (all : List Sized) (start : Extent) (links : List Link) (end : Extent) → AddsUp all start links end → (l : Link) → IsAmong links l → (e : Extent) × HasExtent all (linked l) e × (depth_of l + e.nesting ≤ end.nesting)
nests_link all start [] end s l m = absurd m
nests_link all start (k ∷ links) end (link_and {named = e} h s) l (inl same) =
    let more = nests_from all (with_named start (depth_of k) e) links end s in
    let deep : depth_of k + e.nesting ≤ end.nesting = omega (arith, more) in
    (e, subst (λ (x : Link). HasExtent all (linked x) e) (sym same) h, subst (λ (x : Link). depth_of x + e.nesting ≤ end.nesting) (sym same) deep)
nests_link all start (k ∷ links) end (link_and {named = e} h s) l (inr m) = nests_link all (with_named start (depth_of k) e) links end s l m

sizes_from : (all : List Sized) (start : Extent) (links : List Link) (end : Extent) → AddsUp all start links end → start.size ≤ end.size
sizes_from all start [] end no_link = omega arith
sizes_from all start (l ∷ links) end (link_and {named = e} h s) = let more = sizes_from all (with_named start (depth_of l) e) links end s in omega (arith, more)

-- what each link names is no larger than the whole
pub adds_size : (all : List Sized) (size_of refining : List ℕ → ℕ) (start : Extent) (links : List Link) (end : Extent)
    → ((l : Link) (e : Extent) → IsAmong links l → HasExtent all (linked l) e → e.size ≤ end.size → link_size size_of refining l ≤ e.size) → AddsUp all start links end
    → start.size + named_size size_of refining links ≤ end.size
adds_size all size_of refining start [] end f no_link = omega arith
adds_size all size_of refining start (l ∷ links) end f (link_and {named = e} h s) =
    let up = sizes_from all (with_named start (depth_of l) e) links end s in
    let one = f l e (inl refl) h (omega (arith, up)) in
    let more = adds_size all size_of refining (with_named start (depth_of l) e) links end (λ k d m g low. f k d (inr m) g low) s in
    omega (arith, one, more)

pub own_within : (all : List Sized) (chart : Sized) (e : Extent) → IsExtentOf all chart e → chart.own.size ≤ e.size
own_within all chart e is = sizes_from all chart.own chart.summary.links e is

-- ---- names that charts have

-- a chart has the name, or none has
called_or_not : (charts : List Summary) (name : List ℕ) → IsCalled charts name ⊎ (IsCalled charts name → ⊥)
called_or_not [] name = inr (λ h. h.among)
called_or_not (c ∷ charts) name = by (bytes_eq c.name name) refl (called_or_not charts name)
  where
    by : (b : Bool) → bytes_eq c.name name ≡ b → IsCalled charts name ⊎ (IsCalled charts name → ⊥) → IsCalled (c ∷ charts) name ⊎ (IsCalled (c ∷ charts) name → ⊥)
    by true e o = inl (record { chart = c; among = inl refl; called = (bytes_eq-Decides c.name name).0 e })
    by false e (inl h) = inl (record { chart = h.chart; among = inr h.among; called = h.called })
    by false e (inr none) = inr (λ h. elim h.among [ inl same ↦ other (ap (λ (x : Summary). x.name) (sym same) ∙ h.called) | inr m ↦ none (record { chart = h.chart; among = m; called = h.called }) ])
      where
        other : c.name ≡ name → ⊥
        other is = let t : bytes_eq c.name name ≡ true = (bytes_eq-Decides c.name name).1 is in cc

at_link : (Holds : Link → Type 0) (links : List Link) (l : Link) → IsAmong links l → Holds l → AtLink Holds links (place_of l)
at_link Holds [] l m h = m
at_link Holds (k ∷ links) l (inl e) h = inl (ap place_of (sym e), subst Holds e h)
at_link Holds (k ∷ links) l (inr m) h = inr (at_link Holds links l m h)

at_links : (Holds : Summary → Link → Type 0) (charts : List Summary) (c : Summary) (l : Link) → IsAmong charts c → IsAmong c.links l → Holds c l → AtLinks Holds charts (place_of l)
at_links Holds [] c l m k h = m
at_links Holds (d ∷ charts) c l (inl e) k h = inl (subst (λ (x : Summary). AtLink (Holds x) x.links (place_of l)) e (at_link (Holds c) c.links l k h))
at_links Holds (d ∷ charts) c l (inr m) k h = inr (at_links Holds charts c l m k h)

among_summaries : (charts : List Chart) (c : Chart) → IsAmong charts c → IsAmong (map summary_of charts) (summary_of c)
among_summaries [] c m = m
among_summaries (d ∷ charts) c (inl e) = inl (ap summary_of e)
among_summaries (d ∷ charts) c (inr m) = inr (among_summaries charts c m)

-- a chart with what its joins add
abbrev pub sized_at : List ℕ → ℕ → Chart → Sized
sized_at joined i c = sized_of c (slice_index_or joined i 0)

-- of which chart it is
record IsSized (joined : List ℕ) (charts : List Chart) (s : Sized) (first : ℕ) : Type 0 where
  c : Chart
  i : ℕ
  k : ℕ
  at : slice_get charts i ≡ Some c
  sum : k ≡ first + i
  is : s ≡ sized_at joined k c

among_from : (joined : List ℕ) (first : ℕ) (charts : List Chart) (i k : ℕ) (c : Chart) → k ≡ first + i → slice_get charts i ≡ Some c → IsAmong (sized_from joined first charts) (sized_at joined k c)
among_from joined first [] i k c sum at = cc
among_from joined first (d ∷ charts) zero k c sum at =
    let same : d ≡ c = cc in
    let first_is : k ≡ first = omega (arith, sum) in
    inl (ap₂ (λ (n : ℕ) (x : Chart). sized_at joined n x) first_is (sym same))
among_from joined first (d ∷ charts) (suc i) k c sum at = inr (among_from joined (suc first) charts i k c (omega (arith, sum)) at)

pub among_sized : (charts : List Chart) (joined : List ℕ) (i : ℕ) (c : Chart) → slice_get charts i ≡ Some c → IsAmong (sized_charts charts joined) (sized_at joined i c)
among_sized charts joined i c at = among_from joined 0 charts i i c (omega arith) at

sized_from_one : (joined : List ℕ) (first : ℕ) (charts : List Chart) (s : Sized) → IsAmong (sized_from joined first charts) s → IsSized joined charts s first
sized_from_one joined first [] s m = absurd m
sized_from_one joined first (c ∷ charts) s (inl e) = record { c = c; i = 0; k = first; at = refl; sum = omega arith; is = e }
sized_from_one joined first (c ∷ charts) s (inr m) =
    let h = sized_from_one joined (suc first) charts s m in
    record { c = h.c; i = suc h.i; k = h.k; at = h.at; sum = omega (arith, h.sum); is = h.is }

-- where no link misses its chart, each is called by one
pub link_called : (charts : List Chart) → ((q : Place) → MissesChart (map summary_of charts) q → ⊥) → (c : Chart) → IsAmong charts c → (l : Link) → IsAmong (chart_links c) l → IsCalled (map summary_of charts) (linked l)
link_called charts none c m l k = elim (called_or_not (map summary_of charts) (linked l)) [
  | inl h ↦ h
  | inr lacks ↦ absurd (none (place_of l) (at_links (LinkMisses (map summary_of charts)) (map summary_of charts) (summary_of c) l (among_summaries charts c m) k lacks))
]

-- ---- limits

module _ (charts : List Chart) (joined : List ℕ) where
  abbrev all_sized : List Sized
  all_sized = sized_charts charts joined

  one_comes : (Test : Extent → Type 0) (some : List Sized) (s : Sized) (e : Extent) → IsAmong some s → IsExtentOf all_sized s e → Test e → OneComesTo Test all_sized some s.place
  one_comes Test [] s e m is t = m
  one_comes Test (d ∷ some) s e (inl same) is t =
      inl (ap (λ (x : Sized). x.place) (sym same), subst (λ (x : Sized). ComesTo all_sized x Test) same (record { all = e; is = is; passes = t }))
  one_comes Test (d ∷ some) s e (inr m) is t = inr (one_comes Test some s e m is t)

  pub within_nesting : ((q : Place) → IsTooDeep all_sized q → ⊥) → (s : Sized) (e : Extent) → IsAmong all_sized s → IsExtentOf all_sized s e → e.nesting ≤ EXPANDED_NESTING
  within_nesting none s e m is = elim (cases_lt EXPANDED_NESTING e.nesting) [
    | inl lt ↦ absurd (none s.place (one_comes (λ (x : Extent). EXPANDED_NESTING < x.nesting) all_sized s e m is lt))
    | inr ge ↦ ge
  ]

  pub within_size : ((q : Place) → IsTooLarge all_sized q → ⊥) → (s : Sized) (e : Extent) → IsAmong all_sized s → IsExtentOf all_sized s e → e.size ≤ EXPANDED_SIZE
  within_size none s e m is = elim (cases_lt EXPANDED_SIZE e.size) [
    | inl lt ↦ absurd (none s.place (one_comes (λ (x : Extent). EXPANDED_SIZE < x.size) all_sized s e m is lt))
    | inr ge ↦ ge
  ]

  -- what a link names is one of the charts
  pub record IsCalledChart (name : List ℕ) (e : Extent) : Type 0 where
    pub c : Chart
    pub i : ℕ
    pub at : slice_get charts i ≡ Some c
    pub named : c.name ≡ name
    pub comes : IsExtentOf all_sized (sized_at joined i c) e

  pub called_chart : (l : Link) (e : Extent) → IsCalled (map summary_of charts) (linked l) → HasExtent all_sized (linked l) e → IsCalledChart (linked l) e
  called_chart l e called (of_none lacks is) = absurd (lacks (subst (λ (s : List Summary). IsCalled s (linked l)) (sym (sized_summaries charts joined)) called))
  called_chart l e called (of_chart s m name sum) =
      let h = sized_from_one joined 0 charts s m in
      let index : h.k ≡ h.i = omega (arith, h.sum) in
      let same : s ≡ sized_at joined h.i h.c = h.is ∙ ap (λ (n : ℕ). sized_at joined n h.c) index in
      record { c = h.c; i = h.i; at = h.at; named = ap (λ (x : Sized). x.summary.name) (sym same) ∙ name; comes = subst (λ (x : Sized). IsExtentOf all_sized x e) same sum }
