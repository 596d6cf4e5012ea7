-- A chart leads to more charts than those that it names, where none leads back to itself.
use Rattle.std.proofs.Common.{◌≡◌, inl, inr, ℕ, zero, suc, ◌+◌, ◌<◌, ◌≤◌, Bool, true, false, if◌then◌else◌, List, [], ◌∷◌, length, get_or, map, Some, slice_get, refl, ap, sym, subst, ◌∙◌, arith}
use Rattle.std.proofs.lemmas.Bool.{cases_eq, false_from_ne_true}
use Rattle.std.proofs.lemmas.List.{length-map}
use Rattle.list_facts.proofs.Members.{at_among}
use Rattle.msc_base.specs.Lists.{IsAmong}
use Rattle.msc_base.specs.declared.place.Place.{Place}
use Rattle.chart_links.specs.Links.{Link, linked, place_of}
use Rattle.chart_links.specs.Ranks.{AreRanks, rank_at, rank_of, tally}
use Rattle.chart_links.specs.References.{AtLink, AtLinks, IsCalled, Leads, LinkRecurs, Recurs, onward, there}
use Rattle.chart_links.specs.Rows.{RowHas, row_has}
use Rattle.chart_links.specs.Summaries.{Summary}
use Rattle.chart_links.specs.Tables.{AreTables, IsNumber}
use Rattle.chart_links.proofs.TableFacts.{has_number, number_low}

-- ---- tallies

abbrev one_if : Bool → ℕ
one_if b = if b then 1 else 0

tally_step : (f : ℕ → Bool) (n : ℕ) → tally f (n + 1) ≡ one_if (f n) + tally f n
tally_step f n = let e : n + 1 ≡ suc n = omega arith in ap (tally f) e

pub tally_more : (f : ℕ → Bool) (n total : ℕ) → f n ≡ true → total ≡ tally f n → total + 1 ≡ tally f (n + 1)
tally_more f n total h e = omega (arith, e, tally_step f n, ap one_if h)

pub tally_same : (f : ℕ → Bool) (n total : ℕ) → f n ≡ false → total ≡ tally f n → total ≡ tally f (n + 1)
tally_same f n total h e = omega (arith, e, tally_step f n, ap one_if h)

pub tally_few : (f : ℕ → Bool) (n : ℕ) → tally f n ≤ n
tally_few f zero = omega arith
tally_few f (suc n) = by (f n) refl (tally_few f n)
  where
    by : (b : Bool) → f n ≡ b → tally f n ≤ n → one_if (f n) + tally f n ≤ suc n
    by true e h = omega (arith, h, ap one_if e)
    by false e h = omega (arith, h, ap one_if e)

one_le : (a b : Bool) → (a ≡ true → b ≡ true) → one_if a ≤ one_if b
one_le true b h = omega (arith, ap one_if (h refl))
one_le false true h = omega arith
one_le false false h = omega arith

tally_le : (f g : ℕ → Bool) (n : ℕ) → ((k : ℕ) → f k ≡ true → g k ≡ true) → tally f n ≤ tally g n
tally_le f g zero h = omega arith
tally_le f g (suc n) h = omega (arith, one_le (f n) (g n) (h n), tally_le f g n h)

pub tally_lt : (f g : ℕ → Bool) (n m : ℕ) → ((k : ℕ) → f k ≡ true → g k ≡ true) → m < n → f m ≡ false → g m ≡ true → tally f n < tally g n
tally_lt f g zero m h low lacks has = absurd (omega (arith, low))
tally_lt f g (suc n) m h low lacks has = elim (cases_eq m n) [
  | inl e ↦
      let mine : one_if (f n) ≡ 0 = ap one_if (ap f (sym e) ∙ lacks) in
      let theirs : one_if (g n) ≡ 1 = ap one_if (ap g (sym e) ∙ has) in
      omega (arith, mine, theirs, tally_le f g n h)
  | inr ne ↦ omega (arith, one_le (f n) (g n) (h n), tally_lt f g n m h (omega (arith, low, ne)) lacks has)
]

-- ---- links that lead back

at_link : (Holds : Link → Type 0) (links : List Link) (link : Link) → IsAmong links link → Holds link → AtLink Holds links (place_of link)
at_link Holds [] link m h = absurd m
at_link Holds (l ∷ ls) link (inl e) h = inl (subst (λ (x : Link). (place_of x ≡ place_of link) × Holds x) e (refl, h))
at_link Holds (l ∷ ls) link (inr m) h = inr (at_link Holds ls link m h)

at_links : (Holds : Summary → Link → Type 0) (charts : List Summary) (chart : Summary) (link : Link) → IsAmong charts chart → IsAmong chart.links link → Holds chart link → AtLinks Holds charts (place_of link)
at_links Holds [] chart link m says h = absurd m
at_links Holds (c ∷ cs) chart link (inl e) says h = inl (subst (λ (x : Summary). AtLink (Holds x) x.links (place_of link)) e (at_link (Holds chart) chart.links link says h))
at_links Holds (c ∷ cs) chart link (inr m) says h = inr (at_links Holds cs chart link m says h)

-- ---- ranks

module _ (charts : List Summary) (names known reach expanded : List (List ℕ)) (t : AreTables charts names known reach expanded) (acyclic : (p : Place) → Recurs charts p → ⊥) where
  called : (c : Summary) → IsAmong charts c → IsCalled charts c.name
  called c m = record { chart = c; among = m; called = refl }

  rank_is : (name : List ℕ) (u : ℕ) → IsNumber names name u → rank_of names reach name ≡ tally (row_has reach u) (length names)
  rank_is name u is = ap (rank_at reach (length names)) is

  falls_by : (c d : Summary) (link : Link) → IsAmong charts c → IsAmong charts d → IsAmong c.links link → linked link ≡ d.name → rank_of names reach d.name < rank_of names reach c.name
  falls_by c d link cm dm says to =
      let u = has_number names c.name ((t.names_are c.name).1 (called c cm)) in
      let v = has_number names d.name ((t.names_are d.name).1 (called d dm)) in
      let step : Leads charts c.name d.name = onward (record { chart = c; among = cm; called = refl; link = link; says = says; is = to }) there in
      let down : RowHas reach u.0 v.0 = (t.leads c.name d.name u.0 v.0 u.1 v.1).1 step in
      let self : RowHas reach u.0 u.0 = (t.leads c.name c.name u.0 u.0 u.1 u.1).1 there in
      let back : row_has reach v.0 u.0 ≡ false = false_from_ne_true (row_has reach v.0 u.0) (λ h.
      acyclic (place_of link) (at_links (LinkRecurs charts) charts c link cm says (subst (λ (x : List ℕ). Leads charts x c.name) (sym to) ((t.leads d.name c.name v.0 u.0 v.1 u.1).0 h)))) in
      let less : tally (row_has reach v.0) (length names) < tally (row_has reach u.0) (length names) =
      tally_lt (row_has reach v.0) (row_has reach u.0) (length names) u.0 (λ k h. t.through u.0 v.0 k down h) (number_low names c.name u.0 u.1) back self in
      omega (arith, less, rank_is c.name u.0 u.1, rank_is d.name v.0 v.1)

  rank_at_index : (cs : List Summary) (i : ℕ) (c : Summary) → slice_get cs i ≡ Some c → get_or (map (λ (x : Summary). rank_of names reach x.name) cs) i 0 ≡ rank_of names reach c.name
  rank_at_index [] i c at = cc
  rank_at_index (d ∷ ds) zero c at = let e : d ≡ c = cc in ap (λ (x : Summary). rank_of names reach x.name) e
  rank_at_index (d ∷ ds) (suc i) c at = rank_at_index ds i c at

  pub ranks_are : (ranks : List ℕ) → ranks ≡ map (λ (c : Summary). rank_of names reach c.name) charts → AreRanks charts ranks
  ranks_are ranks e = record {
    len = ap length e ∙ length-map charts (λ (c : Summary). rank_of names reach c.name);
    falls = λ i j c d link ci dj says to.
        let mine : get_or ranks i 0 ≡ rank_of names reach c.name = ap (λ (l : List ℕ). get_or l i 0) e ∙ rank_at_index charts i c ci in
        let theirs : get_or ranks j 0 ≡ rank_of names reach d.name = ap (λ (l : List ℕ). get_or l j 0) e ∙ rank_at_index charts j d dj in
        omega (arith, mine, theirs, falls_by c d link (at_among charts i c ci) (at_among charts j d dj) says to);
  }
