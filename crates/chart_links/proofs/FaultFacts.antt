-- Rules on links by numbers are those by names, and walks over links keep the earliest place.
use Rattle.std.proofs.Common.{◌≡◌, ◌↔◌, inl, inr, ℕ, zero, suc, ◌+◌, ◌<◌, ◌≤◌, Bool, IsTrue, List, [], ◌∷◌, length, drop, get_or, map, Option, Some, None, refl, ap, sym, subst, ◌∙◌, arith}
use Rattle.std.specs.List.{position}
use Rattle.std.specs.Str.{bytes_eq}
use Rattle.list_facts.proofs.Reading.{drop_end, drop_read}
use Rattle.msc_base.proofs.Narrowing.{Narrows, narrows_end, narrows_part, narrows_step}
use Rattle.msc_base.specs.Lists.{IsAmong}
use Rattle.msc_base.specs.Places.{IsLeast, earliest_if}
use Rattle.msc_base.specs.declared.place.Place.{Place}
use Rattle.chart_text.specs.Texts.{Scope}
use Rattle.chart_links.specs.FaultPlaces.{IsOutside, SoFarOr}
use Rattle.chart_links.specs.LinkViews.{link_view}
use Rattle.chart_links.specs.Links as plain
use Rattle.chart_links.specs.Links.{Refers, Refines, linked, place_of}
use Rattle.chart_links.specs.References.{AtLink, AtLinks, IsCalled, LeavesUncovered, LinkMisses, LinkRecurs, LinkUncovers, MissesChart, Recurs, Uncovers}
use Rattle.chart_links.specs.Summaries.{Summary}
use Rattle.chart_links.specs.SummaryViews.{summary_view}
use Rattle.chart_links.specs.Tables.{AreTables, IsUncoveredIn, MissesBy, RecursBy, UncoversBy, UncoversIn}
use Rattle.chart_links.specs.declared.link.Link.{Link}
use Rattle.chart_links.specs.declared.summary.ChartSummary.{ChartSummary}
use Rattle.chart_links.proofs.TableFacts.{called_leads, expanded_reached, has_number}

-- ---- the rules by numbers, of a link of a chart

abbrev pub missing_by : List (List ℕ) → Summary → plain.Link → Type 0
missing_by names caller = MissesBy names

abbrev pub recursive_by : List (List ℕ) → List (List ℕ) → Summary → plain.Link → Type 0
recursive_by names reach caller = RecursBy names reach caller.name

abbrev pub uncovered_by : List (List ℕ) → List (List ℕ) → List (List ℕ) → Summary → plain.Link → Type 0
uncovered_by names known expanded caller = UncoversBy names known expanded caller.instances

-- ---- are those by names

module _ (charts : List Summary) (names known reach expanded : List (List ℕ)) (t : AreTables charts names known reach expanded) (caller : Summary) (among : IsAmong charts caller) where
  misses_same : (link : plain.Link) → MissesBy names link ↔ LinkMisses charts caller link
  misses_same link = (λ h c. h ((t.names_are (linked link)).1 c), λ h m. h ((t.names_are (linked link)).0 m))

  mine : IsCalled charts caller.name
  mine = record { chart = caller; among = among; called = refl }

  recurs_same : (link : plain.Link) → RecursBy names reach caller.name link ↔ LinkRecurs charts caller link
  recurs_same link = (
    λ r. (t.leads (linked link) caller.name r.from r.home r.from_is r.home_is).0 r.leads,
    λ l.
        let home = has_number names caller.name ((t.names_are caller.name).1 mine) in
        let from = has_number names (linked link) ((t.names_are (linked link)).1 (called_leads charts (linked link) caller.name l mine)) in
        record { from = from.0; from_is = from.1; home = home.0; home_is = home.1; leads = (t.leads (linked link) caller.name from.0 home.0 from.1 home.1).1 l },
  )

  uncovers_same : (link : plain.Link) → UncoversBy names known expanded caller.instances link ↔ LinkUncovers charts caller link
  uncovers_same (Refines instance chart place) = (λ h. h, λ h. h)
  uncovers_same (Refers chart place scope depth) = (to, from)
    where
      to : UncoversIn names known expanded caller.instances chart scope → Uncovers charts caller chart scope
      to u = record { instance = u.one.instance; expanded = (t.expands chart u.one.instance u.from u.one.number u.from_is u.one.number_is).0 u.one.expanded; mine = u.one.mine; outside = u.one.outside }

      from : Uncovers charts caller chart scope → UncoversIn names known expanded caller.instances chart scope
      from u =
          let r = expanded_reached charts chart u.instance u.expanded in
          let n = has_number known u.instance (t.known_are r.chart u.instance r.among r.is_own.0) in
          let called : IsCalled charts chart = called_leads charts chart r.chart.name r.leads (record { chart = r.chart; among = r.among; called = refl }) in
          let k = has_number names chart ((t.names_are chart).1 called) in
          record {
            from = k.0;
            from_is = k.1;
            one = record { instance = u.instance; mine = u.mine; number = n.0; number_is = n.1; expanded = (t.expands chart u.instance k.0 n.0 k.1 n.1).1 u.expanded; outside = u.outside };
          }

-- ---- places

at_link_same : (A B : plain.Link → Type 0) (links : List plain.Link) (q : Place) → ((l : plain.Link) → A l → B l) → AtLink A links q → AtLink B links q
at_link_same A B [] q f h = h
at_link_same A B (l ∷ ls) q f (inl p) = inl (p.0, f l p.1)
at_link_same A B (l ∷ ls) q f (inr h) = inr (at_link_same A B ls q f h)

at_links_same : (A B : Summary → plain.Link → Type 0) (charts : List Summary) (q : Place) → ((c : Summary) (l : plain.Link) → IsAmong charts c → A c l → B c l) → AtLinks A charts q → AtLinks B charts q
at_links_same A B [] q f h = h
at_links_same A B (c ∷ cs) q f (inl h) = inl (at_link_same (A c) (B c) c.links q (λ l a. f c l (inl refl) a) h)
at_links_same A B (c ∷ cs) q f (inr h) = inr (at_links_same A B cs q (λ d l m a. f d l (inr m) a) h)

least_same : (A B : Place → Type 0) (o : Option Place) → ((q : Place) → A q → B q) → ((q : Place) → B q → A q) → IsLeast A o → IsLeast B o
least_same A B None f g h = λ q b. h q (g q b)
least_same A B (Some p) f g h = (f p h.0, λ q b. h.1 q (g q b))

module _ (charts : List Summary) (names known reach expanded : List (List ℕ)) (t : AreTables charts names known reach expanded) (o : Option Place) where
  pub missing_is : IsLeast (AtLinks (missing_by names) charts) o → IsLeast (MissesChart charts) o
  missing_is = least_same (AtLinks (missing_by names) charts) (MissesChart charts) o
      (λ q. at_links_same (missing_by names) (LinkMisses charts) charts q (λ c l m. (misses_same charts names known reach expanded t c m l).0))
      (λ q. at_links_same (LinkMisses charts) (missing_by names) charts q (λ c l m. (misses_same charts names known reach expanded t c m l).1))

  pub recursive_is : IsLeast (AtLinks (recursive_by names reach) charts) o → IsLeast (Recurs charts) o
  recursive_is = least_same (AtLinks (recursive_by names reach) charts) (Recurs charts) o
      (λ q. at_links_same (recursive_by names reach) (LinkRecurs charts) charts q (λ c l m. (recurs_same charts names known reach expanded t c m l).0))
      (λ q. at_links_same (LinkRecurs charts) (recursive_by names reach) charts q (λ c l m. (recurs_same charts names known reach expanded t c m l).1))

  pub uncovered_is : IsLeast (AtLinks (uncovered_by names known expanded) charts) o → IsLeast (LeavesUncovered charts) o
  uncovered_is = least_same (AtLinks (uncovered_by names known expanded) charts) (LeavesUncovered charts) o
      (λ q. at_links_same (uncovered_by names known expanded) (LinkUncovers charts) charts q (λ c l m. (uncovers_same charts names known reach expanded t c m l).0))
      (λ q. at_links_same (LinkUncovers charts) (uncovered_by names known expanded) charts q (λ c l m. (uncovers_same charts names known reach expanded t c m l).1))

-- ---- walks

pub links_start : (so_far : Option Place) (All : Place → Type 0) → Narrows (SoFarOr so_far All) All so_far
links_start None All = record { holds = λ p e. cc; covers = λ q s. elim s [ inl e ↦ absurd (cc) | inr a ↦ inr a ]; within = λ q a. inr a }
links_start (Some o) All = record {
  holds = λ p e. inl e;
  covers = λ q s. elim s [ inl e ↦ let same : o ≡ q = cc in inl (inr same) | inr a ↦ inr a ];
  within = λ q a. inr a;
}

-- one link further
pub link_step : (Holds : plain.Link → Type 0) (all : Place → Type 0) (links : List Link) (i : ℕ) (link : Link) (b : Bool) (place : Place) (best next : Option Place) → i < length links → link ≡ get_or links i link
    → (IsTrue b ↔ Holds (link_view link)) → place ≡ place_of (link_view link) → next ≡ earliest_if b best place
    → Narrows all (AtLink Holds (map link_view (drop i links))) best → Narrows all (AtLink Holds (map link_view (drop (i + 1) links))) next
link_step Holds all links i link b place best next low is test place_is made h =
    let now : Narrows all (AtLink Holds (link_view link ∷ map link_view (drop (i + 1) links))) best = subst (λ (l : List Link). Narrows all (AtLink Holds (map link_view l)) best) (drop_read links i link low is) h in
    let there : next ≡ earliest_if b best (place_of (link_view link)) = made ∙ ap (earliest_if b best) place_is in
    subst (λ (o : Option Place). Narrows all (AtLink Holds (map link_view (drop (i + 1) links))) o) (sym there)
    (narrows_step all (AtLink Holds (map link_view (drop (i + 1) links))) best (place_of (link_view link)) b (Holds (link_view link)) now test.0 test.1)

pub links_end : (Holds : plain.Link → Type 0) (all : Place → Type 0) (links : List Link) (i : ℕ) (best : Option Place) → length links ≤ i → Narrows all (AtLink Holds (map link_view (drop i links))) best → IsLeast all best
links_end Holds all links i best high h =
    narrows_end all (AtLink Holds (map link_view (drop i links))) best h (λ q a. subst (λ (l : List Link). AtLink Holds (map link_view l) q) (drop_end links i (λ lt. omega (arith, lt, high))) a)

-- one chart further
pub chart_step : (Holds : Summary → plain.Link → Type 0) (all : Place → Type 0) (charts : List ChartSummary) (i : ℕ) (chart : ChartSummary) (best next : Option Place) → i < length charts → chart ≡ get_or charts i chart
    → IsLeast (SoFarOr best (AtLink (Holds (summary_view chart)) chart.links)) next
    → Narrows all (AtLinks Holds (map summary_view (drop i charts))) best → Narrows all (AtLinks Holds (map summary_view (drop (i + 1) charts))) next
chart_step Holds all charts i chart best next low is least h =
    let now : Narrows all (AtLinks Holds (summary_view chart ∷ map summary_view (drop (i + 1) charts))) best = subst (λ (l : List ChartSummary). Narrows all (AtLinks Holds (map summary_view l)) best) (drop_read charts i chart low is) h in
    narrows_part all (AtLink (Holds (summary_view chart)) chart.links) (AtLinks Holds (map summary_view (drop (i + 1) charts))) best next now least

pub charts_end : (Holds : Summary → plain.Link → Type 0) (all : Place → Type 0) (charts : List ChartSummary) (i : ℕ) (best : Option Place) → length charts ≤ i → Narrows all (AtLinks Holds (map summary_view (drop i charts))) best → IsLeast all best
charts_end Holds all charts i best high h =
    narrows_end all (AtLinks Holds (map summary_view (drop i charts))) best h (λ q a. subst (λ (l : List ChartSummary). AtLinks Holds (map summary_view l) q) (drop_end charts i (λ lt. omega (arith, lt, high))) a)

-- ---- instances by their numbers

-- what a function makes of a list has at an index what it makes of the item there
pub made_at : {A B : Type 0} (f : A → B) (xs : List A) (i : ℕ) (x : A) (y d : B) → i < length xs → x ≡ get_or xs i x → y ≡ get_or (map f xs) i d → y ≡ f x
made_at f [] i x y d low is own = absurd (omega (arith, low))
made_at f (z ∷ zs) zero x y d low is own = own ∙ ap f (sym is)
made_at f (z ∷ zs) (suc i) x y d low is own = made_at f zs i x y d (omega (arith, low)) is own

item_among : {A : Type 0} (xs : List A) (i : ℕ) (x : A) → i < length xs → x ≡ get_or xs i x → IsAmong xs x
item_among [] i x low is = absurd (omega (arith, low))
item_among (z ∷ zs) zero x low is = inl is
item_among (z ∷ zs) (suc i) x low is = inr (item_among zs i x (omega (arith, low)) is)

-- an instance that is left out
pub left_out : (known : List (List ℕ)) (set : List ℕ) (names : List (List ℕ)) (numbers : List (Option ℕ)) (cover : Scope) (i : ℕ) (name : List ℕ) (number d : Option ℕ) → numbers ≡ map (λ (n : List ℕ). position (bytes_eq n) known) names
    → i < length names → name ≡ get_or names i name → number ≡ get_or numbers i d → IsOutside set number name cover → IsUncoveredIn known set names cover
left_out known set names numbers cover i name number d are low is own out = by number refl out
  where
    at : number ≡ position (bytes_eq name) known
    at = made_at (λ (n : List ℕ). position (bytes_eq n) known) names i name number d low is (own ∙ ap (λ (l : List (Option ℕ)). get_or l i d) are)

    by : (o : Option ℕ) → number ≡ o → IsOutside set o name cover → IsUncoveredIn known set names cover
    by None e h = absurd h
    by (Some n) e h = record { instance = name; mine = item_among names i name low is; number = n; number_is = sym at ∙ e; expanded = h.0; outside = h.1 }
