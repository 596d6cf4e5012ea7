-- Extents up to a number above all limits are exact below it: sums of links, rank by rank.
use Rattle.std.proofs.Common.{◌≡◌, inl, inr, ℕ, zero, suc, ◌+◌, ◌<◌, ◌≤◌, max, min, List, [], ◌∷◌, length, get_or, set, map, Option, Some, None, slice_get, refl, ap, ap₂, sym, subst, ◌∙◌, arith}
use Rattle.std.proofs.lemmas.Bool.{cases_eq, true≢false}
use Rattle.std.proofs.lemmas.List.{get_or-set_other, get_or-set_same, length-map, length-set}
use Rattle.std.proofs.lemmas.List.Quantifiers.{position-Some}
use Rattle.std.proofs.lemmas.Slice.Eq.{bytes_eq-Decides}
use Rattle.std.specs.List.{position}
use Rattle.std.specs.Option.{is_some}
use Rattle.std.specs.Str.{bytes_eq}
use Rattle.list_facts.proofs.Members.{at_among}
use Rattle.list_facts.proofs.Reading.{some_at}
use Rattle.msc_base.proofs.NameFacts.{number_of_one}
use Rattle.msc_base.specs.Lists.{IsAmong}
use Rattle.chart_extents.specs.Capped.{AreKept, AreKeptUpTo, capped, extent_at, most, names_of, sum_links, value_of}
use Rattle.chart_extents.specs.Extents.{AddsUp, HasExtent, IsExtentOf, Sized, link_and, no_link, nothing, of_chart, of_none, summaries, with_named}
use Rattle.chart_extents.specs.declared.extent.Extent.{Extent}
use Rattle.chart_links.specs.Links.{Link, depth_of, linked}
use Rattle.chart_links.specs.Ranks.{AreRanks}
use Rattle.chart_links.specs.References.{IsCalled}
use Rattle.chart_links.specs.Summaries.{Summary}

-- ---- caps

abbrev extent : ℕ → ℕ → Extent
extent size nesting = record { size = size; nesting = nesting }

pub same_extent : (s t n m : ℕ) → s ≡ t → n ≡ m → extent s n ≡ extent t m
same_extent s t n m e f = ap₂ extent e f

cap_size : (a b : ℕ) → min (min a most + min b most) most ≡ min (a + b) most
cap_size a b = omega arith

cap_nesting : (a b d : ℕ) → min (max (min a most) (d + min b most)) most ≡ min (max a (d + b)) most
cap_nesting a b d = omega arith

-- what was cut before is as if it were cut behind
capped_with : (a b : Extent) (d : ℕ) → capped (with_named (capped a) d (capped b)) ≡ capped (with_named a d b)
capped_with a b d = same_extent _ _ _ _ (cap_size a.size b.size) (cap_nesting a.nesting b.nesting d)

-- ---- sums of links

-- what is kept of each name that the links name is what it comes to
abbrev AreKnown : List Sized → List (List ℕ) → List Extent → List Link → Type 0
AreKnown charts names values links = (link : Link) → IsAmong links link → (e : Extent) × HasExtent charts (linked link) e × (value_of names values (linked link) ≡ capped e)

pub links_summed : (charts : List Sized) (names : List (List ℕ)) (values : List Extent) (links : List Link) (start : Extent) → AreKnown charts names values links
    → (all : Extent) × AddsUp charts start links all × (sum_links names values (capped start) links ≡ capped all)
links_summed charts names values [] start known = (start, no_link, refl)
links_summed charts names values (l ∷ ls) start known =
    let k = known l (inl refl) in
    let next : Extent = with_named start (depth_of l) k.0 in
    let step : capped (with_named (capped start) (depth_of l) (value_of names values (linked l))) ≡ capped next =
    ap (λ (v : Extent). capped (with_named (capped start) (depth_of l) v)) k.2 ∙ capped_with start k.0 (depth_of l) in
    let rest = links_summed charts names values ls next (λ m h. known m (inr h)) in
    (rest.0, link_and k.1 rest.1, ap (λ (v : Extent). sum_links names values v ls) step ∙ rest.2)

-- ---- charts by their names

-- what was read of a list at an index stands there
pub read_at : {A : Type 0} (xs : List A) (i : ℕ) (x : A) → i < length xs → x ≡ get_or xs i x → slice_get xs i ≡ Some x
read_at [] i x low is = absurd (omega (arith, low))
read_at (z ∷ zs) zero x low is = ap (λ (y : _). Some y) (sym is)
read_at (z ∷ zs) (suc i) x low is = read_at zs i x (omega (arith, low)) is

at_mapped : {A B : Type 0} (f : A → B) (xs : List A) (i : ℕ) (x : A) (d : B) → slice_get xs i ≡ Some x → get_or (map f xs) i d ≡ f x
at_mapped f [] i x d at = cc
at_mapped f (z ∷ zs) zero x d at = let e : z ≡ x = cc in ap f e
at_mapped f (z ∷ zs) (suc i) x d at = at_mapped f zs i x d at

pub got_mapped : {A B : Type 0} (f : A → B) (xs : List A) (i : ℕ) (x : A) → slice_get xs i ≡ Some x → slice_get (map f xs) i ≡ Some (f x)
got_mapped f [] i x at = cc
got_mapped f (z ∷ zs) zero x at = let e : z ≡ x = cc in ap (λ (y : _). Some (f y)) e
got_mapped f (z ∷ zs) (suc i) x at = got_mapped f zs i x at

among_mapped : {A B : Type 0} (f : A → B) (xs : List A) (x : A) → IsAmong xs x → IsAmong (map f xs) (f x)
among_mapped f [] x m = absurd m
among_mapped f (z ∷ zs) x (inl e) = inl (ap f e)
among_mapped f (z ∷ zs) x (inr m) = inr (among_mapped f zs x m)

-- a name that has a number is that of the chart there
named_at : (charts : List Sized) (name : List ℕ) (j : ℕ) → position (bytes_eq name) (names_of charts) ≡ Some j → (c : Sized) × (slice_get charts j ≡ Some c) × (c.summary.name ≡ name)
named_at charts name j is =
    let p = position-Some (bytes_eq name) (names_of charts) j [] is in
    let low : j < length charts = omega (arith, p.0, length-map charts (λ (c : Sized). c.summary.name)) in
    let c = some_at charts j low in
    let here : get_or (names_of charts) j [] ≡ c.0.summary.name = at_mapped (λ (x : Sized). x.summary.name) charts j c.0 [] c.1 in
    (c.0, c.1, sym ((bytes_eq-Decides name (get_or (names_of charts) j [])).0 p.1 ∙ here))

-- one that has none is no chart's
not_called : (charts : List Sized) (name : List ℕ) → position (bytes_eq name) (names_of charts) ≡ None → IsCalled (summaries charts) name → ⊥
not_called charts name none called = true≢false (sym (number_of_one (names_of charts) name (among charts called.chart called.among called.called)) ∙ ap is_some none)
  where
    among : (cs : List Sized) (s : Summary) → IsAmong (summaries cs) s → s.name ≡ name → IsAmong (names_of cs) name
    among [] s m is = absurd m
    among (c ∷ cs) s (inl e) is = inl (sym is ∙ ap (λ (x : Summary). x.name) e)
    among (c ∷ cs) s (inr m) is = inr (among cs s m is)

-- ---- rank by rank

module _ (charts : List Sized) (ranks : List ℕ) (are : AreRanks (summaries charts) ranks) where
  -- what a chart names is known where the charts of lower rank are
  known_below : (values : List Extent) (rank k : ℕ) (chart : Sized) → AreKeptUpTo charts ranks rank k values → slice_get charts k ≡ Some chart → get_or ranks k 0 ≡ rank → AreKnown charts (names_of charts) values chart.summary.links
  known_below values rank k chart kept at is link says = by (position (bytes_eq (linked link)) (names_of charts)) refl
    where
      by : (o : Option ℕ) → position (bytes_eq (linked link)) (names_of charts) ≡ o → (e : Extent) × HasExtent charts (linked link) e × (value_of (names_of charts) values (linked link) ≡ capped e)
      by None e = (nothing, of_none (not_called charts (linked link) e) refl, ap (extent_at values) e)
      by (Some j) e =
          let d = named_at charts (linked link) j e in
          let less : get_or ranks j 0 < get_or ranks k 0 = are.falls k j chart.summary d.0.summary link (got_mapped (λ (x : Sized). x.summary) charts k chart at) (got_mapped (λ (x : Sized). x.summary) charts j d.0 d.1) says (sym d.2) in
          let one = kept.each j d.0 d.1 (inl (omega (arith, less, is))) in
          (one.all, of_chart d.0 (at_among charts j d.0 d.1) d.2 one.is, ap (extent_at values) e ∙ one.kept)

  -- one chart of the rank more
  pub rank_more : (values new : List Extent) (rank k : ℕ) (chart : Sized) → AreKeptUpTo charts ranks rank k values → slice_get charts k ≡ Some chart → k < length charts → get_or ranks k 0 ≡ rank
      → new ≡ set values k (sum_links (names_of charts) values (capped chart.own) chart.summary.links) → AreKeptUpTo charts ranks rank (k + 1) new
  rank_more values new rank k chart kept at low is made =
      let s = links_summed charts (names_of charts) values chart.summary.links chart.own (known_below values rank k chart kept at is) in
      let value : Extent = sum_links (names_of charts) values (capped chart.own) chart.summary.links in
      let room : k < length values = omega (arith, low, kept.len) in
      record {
        len = ap length made ∙ length-set values k value ∙ kept.len;
        each = λ i c ci done. elim (cases_eq i k) [
          | inl e ↦
              let same : chart ≡ c = let g : Some chart ≡ Some c = sym at ∙ subst (λ (z : ℕ). slice_get charts z ≡ Some c) e ci in cc in
              let here : get_or new i nothing ≡ value = ap₂ (λ (l : List Extent) (z : ℕ). get_or l z nothing) made e ∙ get_or-set_same values k value nothing room in
              record { all = s.0; is = subst (λ (x : Sized). IsExtentOf charts x s.0) same s.1; kept = here ∙ s.2 }
          | inr ne ↦
              let old = kept.each i c ci (elim done [ inl less ↦ inl less | inr p ↦ inr (p.0, omega (arith, p.1, ne)) ]) in
              let other : get_or new i nothing ≡ get_or values i nothing = ap (λ (l : List Extent). get_or l i nothing) made ∙ get_or-set_other values k i value nothing ne in
              record { all = old.all; is = old.is; kept = other ∙ old.kept }
        ];
      }

  -- a chart of another rank
  pub rank_other : (values : List Extent) (rank k : ℕ) → AreKeptUpTo charts ranks rank k values → (get_or ranks k 0 ≡ rank → ⊥) → AreKeptUpTo charts ranks rank (k + 1) values
  rank_other values rank k kept differs = record {
    len = kept.len;
    each = λ i c ci done. kept.each i c ci (elim done [
      | inl less ↦ inl less
      | inr p ↦ elim (cases_eq i k) [ inl e ↦ absurd (differs (subst (λ (z : ℕ). get_or ranks z 0 ≡ rank) e p.0)) | inr ne ↦ inr (p.0, omega (arith, p.1, ne)) ]
    ]);
  }

  -- all of the rank
  pub rank_done : (values : List Extent) (rank : ℕ) → AreKeptUpTo charts ranks rank (length charts) values → AreKeptUpTo charts ranks (rank + 1) 0 values
  rank_done values rank kept = record {
    len = kept.len;
    each = λ i c ci done. kept.each i c ci (elim done [
      | inl less ↦ elim (cases_eq (get_or ranks i 0) rank) [ inl e ↦ inr (e, below charts i c ci) | inr ne ↦ inl (omega (arith, less, ne)) ]
      | inr p ↦ absurd (omega (arith, p.1))
    ]);
  }
    where
      below : (cs : List Sized) (i : ℕ) (c : Sized) → slice_get cs i ≡ Some c → i < length cs
      below [] i c at = cc
      below (d ∷ ds) zero c at = omega arith
      below (d ∷ ds) (suc i) c at = let h = below ds i c at in omega (arith, h)

  pub rank_start : (values : List Extent) → length values ≡ length charts → AreKeptUpTo charts ranks 0 0 values
  rank_start values len = record { len = len; each = λ i c ci done. absurd (elim done [ inl less ↦ omega (arith, less) | inr p ↦ omega (arith, p.1) ]) }

  pub ranks_done : (values : List Extent) (rank : ℕ) → ((i : ℕ) → get_or ranks i 0 ≤ rank) → AreKeptUpTo charts ranks (rank + 1) 0 values → AreKept charts values
  ranks_done values rank high kept = record { len = kept.len; each = λ i c ci. kept.each i c ci (inl (omega (arith, high i))) }
