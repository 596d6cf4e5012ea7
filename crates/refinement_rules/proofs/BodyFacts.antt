-- What the walks over one basic chart tell is what the rules ask.
use Rattle.std.proofs.Common.{◌≡◌, ◌↔◌, ◌⊎◌, inl, inr, ℕ, Bool, true, false, not, ◌||◌, List, [], ◌∷◌, map, Option, Some, None, refl, sym, ap, subst, ◌∙◌}
use Rattle.std.proofs.lemmas.Bool.{true≢false, or_left, or_right, or_cases}
use Rattle.std.proofs.lemmas.Slice.Eq.{bytes_eq-Decides}
use Rattle.std.specs.List.{list_any, position}
use Rattle.std.specs.Str.{bytes_eq}
use Rattle.chart_links.specs.Sets.{HasExpanded, MeetsExpanded}
use Rattle.gate_ends.specs.LevelGates.{HasNames, items_in}
use Rattle.msc_base.proofs.NameFacts.{any_from_one, one_from_any}
use Rattle.msc_base.specs.Lists.{IsAmong}
use Rattle.msc_base.specs.Places.{IsLeast}
use Rattle.msc_base.specs.declared.place.Place.{Place}
use Rattle.msc_meaning.specs.Bodies.{Body, WovenItems, WovenItem, Single, Coregion, Inline, Refer, item_list, items}
use Rattle.msc_meaning.specs.Bodies as body
use Rattle.msc_meaning.specs.ItemViews.{items_view}
use Rattle.msc_meaning.specs.Tables.{Table, ChartEntry, Woven, Basic, HighLevel, chart_at}
use Rattle.msc_meaning.specs.Views.{body_step, body_view, entry_view, inline_step, item_step, item_view, table_view}
use Rattle.msc_meaning.specs.declared.body.Body as rust_body
use Rattle.msc_meaning.specs.declared.body.Body.{out-Body, fold_out-Body}
use Rattle.msc_meaning.specs.declared.body.ChartEntry as rust_chart
use Rattle.msc_meaning.specs.declared.body.Item as rust_item
use Rattle.msc_tree.specs.Graphs.{Graph}
use Rattle.msc_tree.specs.declared.chart.Decl.{Decl}
use Rattle.refinement_rules.specs.Earliest.{SharedIn, told}
use Rattle.refinement_rules.specs.Judging.{BodyBreaks, ContentBreaks, CoversRefined, DeclHolds, Decomposes, EntryBreaks, EntryInside, HasTaken, InsideBy, InsideIn, IsTaken, ItemLocal, ItemShares, MismatchBy, OfRefining, PartShares, SharedBy, TableBreaks, has_two, inside_entry, some_chart_refined, some_refined}
use Rattle.refinement_rules.specs.RefinementRules.{IsShared, covered, item_cover}
use Rattle.refinement_rules.specs.Walks.{HasBit, OneHolds, SoFarOr}
use Rattle.refinement_rules.specs.declared.faults.RefinementPlaces.{RefinementPlaces}
use Rattle.refinement_rules.specs.declared.faults.RefinementRule.{RefinementRule}
use Rattle.refinement_rules.specs.declared.faults.RefinementRule.TheVariants as rule
use Rattle.refinement_rules.proofs.DeclFacts.{none_decomposed}
use Rattle.refinement_rules.proofs.Semantics.{chart_there, decomposed_is, found_chart, of_refining, refining_of}
use Rattle.refinement_rules.proofs.Walked.{least_kept, one_from, one_made, one_of, one_same, so_far_same}

-- ---- declarations

-- of each that a chart refines it may be said in other words
pub decls_same : (P Q : List ℕ → List ℕ → Type 0) (decls : List Decl) (q : Place) → ((d : Decl) → IsAmong decls d → (chart : List ℕ) → d.refined ≡ Some chart → P d.name chart → Q d.name chart) → OneHolds (DeclHolds P) decls q → OneHolds (DeclHolds Q) decls q
decls_same P Q decls q f = one_same (DeclHolds P) (DeclHolds Q) decls q (λ d m h. let r = refining_of (P d.name) d.refined h.1 in (h.0, of_refining (Q d.name) d.refined r.0 r.1 (f d m r.0 r.1 r.2)))

-- ---- covers of two instances

another : (n m : List ℕ) → (bytes_eq n m ≡ true) ⊎ (not (bytes_eq n m) ≡ true)
another n m = by (bytes_eq n m)
  where
    by : (b : Bool) → (b ≡ true) ⊎ (not b ≡ true)
    by true = inl refl
    by false = inr refl

apart : (n m : List ℕ) → not (bytes_eq n m) ≡ true → m ≡ n → ⊥
apart n m h e = true≢false (sym h ∙ ap not ((bytes_eq-Decides n m).1 (sym e)))

differs_from : (n : List ℕ) (ns : List (List ℕ)) → list_any (λ m. not (bytes_eq n m)) ns ≡ true → (m : List ℕ) × IsAmong ns m × (m ≡ n → ⊥)
differs_from n [] h = absurd (true≢false (sym h))
differs_from n (m ∷ ns) h = elim (or_cases (not (bytes_eq n m)) (list_any (λ m. not (bytes_eq n m)) ns) h) [
  | inl here ↦ (m, inl refl, apart n m here)
  | inr there ↦ let r = differs_from n ns there in (r.0, inr r.1, r.2)
]

any_differs : (n : List ℕ) (ns : List (List ℕ)) (m : List ℕ) → IsAmong ns m → (m ≡ n → ⊥) → list_any (λ m. not (bytes_eq n m)) ns ≡ true
any_differs n [] m at ne = absurd at
any_differs n (k ∷ ns) m (inl e) ne = or_left (not (bytes_eq n k)) (list_any (λ m. not (bytes_eq n m)) ns) (elim (another n k) [ inl same ↦ absurd (ne (e ∙ sym ((bytes_eq-Decides n k).0 same))) | inr h ↦ h ])
any_differs n (k ∷ ns) m (inr at) ne = or_right (not (bytes_eq n k)) (list_any (λ m. not (bytes_eq n m)) ns) (any_differs n ns m at ne)

pub two_other : (cover : List (List ℕ)) (i : List ℕ) → has_two cover ≡ true → (other : List ℕ) × IsAmong cover other × (other ≡ i → ⊥)
two_other [] i h = absurd (true≢false (sym h))
two_other (n ∷ ns) i h =
    let m = differs_from n ns h in
    elim (another n i) [
      | inl same ↦ let is : n ≡ i = (bytes_eq-Decides n i).0 same in (m.0, inr m.1, λ e. m.2 (e ∙ sym is))
      | inr ne ↦ (n, inl refl, λ e. apart n i ne (sym e))
    ]

pub other_two : (cover : List (List ℕ)) (i other : List ℕ) → IsAmong cover i → IsAmong cover other → (other ≡ i → ⊥) → has_two cover ≡ true
other_two [] i other a b ne = absurd a
other_two (n ∷ ns) i other (inl e) (inl f) ne = absurd (ne (f ∙ sym e))
other_two (n ∷ ns) i other (inl e) (inr b) ne = any_differs n ns other b (λ f. ne (f ∙ sym e))
other_two (n ∷ ns) i other (inr a) (inl f) ne = any_differs n ns i a (λ e. ne (f ∙ sym e))
other_two (n ∷ ns) i other (inr a) (inr b) ne = elim (another n i) [
  | inl same ↦ let is : n ≡ i = (bytes_eq-Decides n i).0 same in any_differs n ns other b (λ f. ne (f ∙ is))
  | inr h ↦ any_differs n ns i a (apart n i h)
]

-- ---- items

shares_of : (Refined : List ℕ → Type 0) (held : WovenItems) (x : WovenItem) (i : List ℕ) → IsAmong (item_list held) x → IsAmong (item_cover x) i → has_two (item_cover x) ≡ true → IsShared held i
shares_of Refined held x i m own two = let o = two_other (item_cover x) i two in record { item = x; among = m; own = own; other = o.0; besides = o.1; differs = o.2 }

shares_to : (Refined : List ℕ → Type 0) (held : WovenItems) (x : WovenItem) (i : List ℕ) → IsAmong (item_list held) x → ItemShares Refined x i → IsShared held i
shares_to Refined held (Single n) i m h = absurd h
shares_to Refined held (Coregion ns) i m h = absurd h
shares_to Refined held (Inline form part operands) i m h = shares_of Refined held (Inline form part operands) i m h.0 h.2
shares_to Refined held (Refer part) i m h = shares_of Refined held (Refer part) i m h.0 h.2

shares_from : (Refined : List ℕ → Type 0) (x : WovenItem) (i : List ℕ) → Refined i → IsAmong (item_cover x) i → has_two (item_cover x) ≡ true → ItemShares Refined x i
shares_from Refined (Single n) i r own two = own
shares_from Refined (Coregion ns) i r own two = own
shares_from Refined (Inline form part operands) i r own two = (own, r, two)
shares_from Refined (Refer part) i r own two = (own, r, two)

pub shared_is : (Refined : List ℕ → Type 0) (held : WovenItems) (i : List ℕ) → Refined i → OneHolds (ItemShares Refined) (item_list held) i ↔ IsShared held i
shared_is Refined held i r = (
  λ h. let o = one_of (ItemShares Refined) (item_list held) i h in shares_to Refined held o.0 i o.1 o.2,
  λ s. one_from (ItemShares Refined) (item_list held) i s.item s.among (shares_from Refined s.item i r s.own (other_two (item_cover s.item) i s.other s.own s.besides s.differs)),
)

listed : (xs : List WovenItem) → item_list (items xs) ≡ xs
listed [] = refl
listed (x ∷ xs) = ap (λ l. x ∷ l) (listed xs)

-- of the items as the code holds them
pub items_same : {N : Type 0} (P : WovenItem → N → Type 0) (xs : List rust_item.Item) (held : WovenItems) (n : N) → held ≡ items_view xs → OneHolds (λ (x : rust_item.Item). P (item_view x)) xs n ↔ OneHolds P (item_list held) n
items_same P xs held n is =
    subst (λ (l : List WovenItem). OneHolds (λ (x : rust_item.Item). P (item_view x)) xs n ↔ OneHolds P l n) (sym (ap item_list is ∙ listed (map item_view xs))) (one_made item_view P xs n)

pub body_items : (b : rust_body.Body) → items_in (body_view b) ≡ items_view (out-Body b).items.items
body_items b = ap items_in (fold_out-Body body.WovenItem body.Body body.WovenItem item_step body_step inline_step b)

pub body_cover : (b : rust_body.Body) → covered (body_view b) ≡ (out-Body b).cover
body_cover b = ap covered (fold_out-Body body.WovenItem body.Body body.WovenItem item_step body_step inline_step b)

-- ---- shared

module _ (names known expanded : List (List ℕ)) (decls : List Decl) (b : Body) (refined shared : List (List ℕ)) (taken : List ℕ)
    (are : (name : List ℕ) → IsAmong refined name ↔ OneHolds Decomposes decls name)
    (shares : (name : List ℕ) → IsAmong shared name ↔ OneHolds (ItemShares (IsAmong refined)) (item_list (items_in b)) name)
    (takes : (n : ℕ) → HasBit taken n ↔ IsTaken names known expanded decls b n) where
  is_refined : (d : Decl) → IsAmong decls d → (chart : List ℕ) → d.refined ≡ Some chart → IsAmong refined d.name
  is_refined d m chart is = (are d.name).1 ((decomposed_is decls d.name).1 (record { decl = d; declares = m; called = refl; refining = chart; refines = is }))

  pub shared_same : (q : Place) → OneHolds (DeclHolds (SharedIn names expanded shared taken)) decls q ↔ OneHolds (DeclHolds (SharedBy names known expanded decls b)) decls q
  shared_same q = (
    decls_same (SharedIn names expanded shared taken) (SharedBy names known expanded decls b) decls q (λ d m chart is h. elim h [
      | inl s ↦ inl ((shared_is (IsAmong refined) (items_in b) d.name (is_refined d m chart is)).0 ((shares d.name).0 s))
      | inr t ↦ inr (record { number = t.number; there = t.there; taken = (takes t.number).0 t.among })
    ]),
    decls_same (SharedBy names known expanded decls b) (SharedIn names expanded shared taken) decls q (λ d m chart is h. elim h [
      | inl s ↦ inl ((shares d.name).1 ((shared_is (IsAmong refined) (items_in b) d.name (is_refined d m chart is)).1 s))
      | inr t ↦ inr (record { number = t.number; there = t.there; among = (takes t.number).1 t.taken })
    ]),
  )

-- ---- local

local_item : (P Q : List ℕ → Type 0) → ((name : List ℕ) → P name → Q name) → (x : WovenItem) (q : Place) → ItemLocal P x q → ItemLocal Q x q
local_item P Q f (Single n) q h = (h.0, (f n.at h.1.0, h.1.1))
local_item P Q f (Coregion ns) q h = h
local_item P Q f (Inline form part operands) q h = (h.0, record { name = h.1.name; among = h.1.among; refined = f h.1.name h.1.refined })
local_item P Q f (Refer part) q h = (h.0, record { name = h.1.name; among = h.1.among; refined = f h.1.name h.1.refined })

pub local_same : (decls : List Decl) (refined : List (List ℕ)) → ((name : List ℕ) → IsAmong refined name ↔ OneHolds Decomposes decls name) → (xs : List rust_item.Item) (held : WovenItems) → held ≡ items_view xs → (q : Place)
    → OneHolds (λ (x : rust_item.Item). ItemLocal (IsAmong refined) (item_view x)) xs q ↔ OneHolds (ItemLocal (OneHolds Decomposes decls)) (item_list held) q
local_same decls refined are xs held is q =
    let s = items_same (ItemLocal (IsAmong refined)) xs held q is in (
      λ h. one_same (ItemLocal (IsAmong refined)) (ItemLocal (OneHolds Decomposes decls)) (item_list held) q (λ x m. local_item (IsAmong refined) (OneHolds Decomposes decls) (λ name r. (are name).0 r) x q) (s.0 h),
      λ h. s.1 (one_same (ItemLocal (OneHolds Decomposes decls)) (ItemLocal (IsAmong refined)) (item_list held) q (λ x m. local_item (OneHolds Decomposes decls) (IsAmong refined) (λ name r. (are name).1 r) x q) h),
    )

-- ---- inside

names_of : (charts : List rust_chart.ChartEntry) (name : List ℕ) → IsAmong (map (λ (c : rust_chart.ChartEntry). c.name) charts) name → (c : ChartEntry) × IsAmong (table_view charts) c × (c.name ≡ name)
names_of [] name h = absurd h
names_of (c ∷ cs) name (inl e) = (entry_view c, inl refl, sym e)
names_of (c ∷ cs) name (inr h) = let r = names_of cs name h in (r.0, inr r.1, r.2)

of_names : (charts : List rust_chart.ChartEntry) (c : ChartEntry) → IsAmong (table_view charts) c → IsAmong (map (λ (c : rust_chart.ChartEntry). c.name) charts) c.name
of_names [] c h = absurd h
of_names (d ∷ ds) c (inl e) = inl (ap (λ (x : ChartEntry). x.name) e)
of_names (d ∷ ds) c (inr h) = inr (of_names ds c h)

among_or_not : (names : List (List ℕ)) (name : List ℕ) → IsAmong names name ⊎ (IsAmong names name → ⊥)
among_or_not names name = by (list_any (bytes_eq name) names) refl
  where
    by : (b : Bool) → list_any (bytes_eq name) names ≡ b → IsAmong names name ⊎ (IsAmong names name → ⊥)
    by true e = inl (one_from_any names name e)
    by false e = inr (λ h. true≢false (sym (any_from_one names name h) ∙ e))

module _ (charts : List rust_chart.ChartEntry) (own names reach inside : List (List ℕ)) (named : HasNames charts own)
    (known : (name : List ℕ) → IsAmong inside name ↔ OneHolds (λ (c : rust_chart.ChartEntry). EntryInside (table_view charts) names reach (entry_view c)) charts name) where
  no_chart : (chart : List ℕ) → (IsAmong own chart → ⊥) → chart_at (table_view charts) chart ≡ None
  no_chart chart none = by (chart_at (table_view charts) chart) refl
    where
      by : (o : Option ChartEntry) → chart_at (table_view charts) chart ≡ o → chart_at (table_view charts) chart ≡ None
      by None e = e
      by (Some c) e =
          let f = found_chart (table_view charts) chart c e in
          absurd (none (subst (λ (l : List (List ℕ)). IsAmong l chart) (sym named) (subst (IsAmong (map (λ (x : rust_chart.ChartEntry). x.name) charts)) f.1 (of_names charts c f.0))))

  inside_to : (chart : List ℕ) → (IsAmong own chart → ⊥) ⊎ IsAmong inside chart → InsideBy (table_view charts) names reach chart
  inside_to chart (inl none) = inl (ap inside_entry (no_chart chart none))
  inside_to chart (inr h) = let o = one_of (λ (c : rust_chart.ChartEntry). EntryInside (table_view charts) names reach (entry_view c)) charts chart ((known chart).0 h) in o.2.1

  inside_from : (chart : List ℕ) → InsideBy (table_view charts) names reach chart → (IsAmong own chart → ⊥) ⊎ IsAmong inside chart
  inside_from chart h = elim (among_or_not own chart) [
    | inr none ↦ inl none
    | inl at ↦
        let c = names_of charts chart (subst (λ (l : List (List ℕ)). IsAmong l chart) named at) in
        inr ((known chart).1 ((one_made entry_view (EntryInside (table_view charts) names reach) charts chart).1 (one_from (EntryInside (table_view charts) names reach) (table_view charts) chart c.0 c.1 (c.2, h))))
  ]

  pub inside_same : (decls : List Decl) (q : Place) → OneHolds (DeclHolds (InsideIn own inside)) decls q ↔ OneHolds (DeclHolds (λ instance. InsideBy (table_view charts) names reach)) decls q
  inside_same decls q = (
    decls_same (InsideIn own inside) (λ instance. InsideBy (table_view charts) names reach) decls q (λ d m chart is h. inside_to chart h),
    decls_same (λ instance. InsideBy (table_view charts) names reach) (InsideIn own inside) decls q (λ d m chart is h. inside_from chart h),
  )

pub charts_called : (charts : List rust_chart.ChartEntry) (own : List (List ℕ)) → HasNames charts own → (c : ChartEntry) → IsAmong (table_view charts) c → IsAmong own c.name
charts_called charts own named c m = subst (λ (l : List (List ℕ)). IsAmong l c.name) (sym named) (of_names charts c m)

-- ---- all rules of one chart

module _ (table : List rust_chart.ChartEntry) (own names known reach expanded : List (List ℕ)) (decls : List Decl) (b : rust_body.Body) (xs : List rust_item.Item) (held : items_in (body_view b) ≡ items_view xs)
    (refined shared inside : List (List ℕ)) (taken : List ℕ) (so_far new : RefinementPlaces)
    (are : (name : List ℕ) → IsAmong refined name ↔ OneHolds Decomposes decls name)
    (shares : (name : List ℕ) → IsAmong shared name ↔ OneHolds (λ (x : rust_item.Item). ItemShares (IsAmong refined) (item_view x)) xs name)
    (takes : (n : ℕ) → HasBit taken n ↔ IsTaken names known expanded decls (body_view b) n)
    (named : HasNames table own)
    (are_inside : (name : List ℕ) → IsAmong inside name ↔ OneHolds (λ (c : rust_chart.ChartEntry). EntryInside (table_view table) names reach (entry_view c)) table name)
    (mismatch : IsLeast (SoFarOr so_far.mismatch (OneHolds (DeclHolds (MismatchBy (table_view table) (items_view xs))) decls)) new.mismatch)
    (share : IsLeast (SoFarOr so_far.shared (OneHolds (DeclHolds (SharedIn names expanded shared taken)) decls)) new.shared)
    (has_inside : IsLeast (SoFarOr so_far.inside (OneHolds (DeclHolds (InsideIn own inside)) decls)) new.inside)
    (local : IsLeast (SoFarOr so_far.local (OneHolds (λ (x : rust_item.Item). ItemLocal (IsAmong refined) (item_view x)) xs)) new.local) where
  by_woven : (name : List ℕ) → IsAmong shared name ↔ OneHolds (ItemShares (IsAmong refined)) (item_list (items_in (body_view b))) name
  by_woven name =
      let s = items_same (ItemShares (IsAmong refined)) xs (items_in (body_view b)) name held in
      (λ h. s.0 ((shares name).0 h), λ h. (shares name).1 (s.1 h))

  pub earliest_of_body : (r : RefinementRule) → IsLeast (SoFarOr (told r so_far) (BodyBreaks (table_view table) names known reach expanded r decls (body_view b))) (told r new)
  earliest_of_body rule.DecompositionMismatch = subst (λ (w : WovenItems). IsLeast (SoFarOr so_far.mismatch (OneHolds (DeclHolds (MismatchBy (table_view table) w)) decls)) new.mismatch) (sym held) mismatch
  earliest_of_body rule.SharedPart =
      so_far_same so_far.shared (OneHolds (DeclHolds (SharedIn names expanded shared taken)) decls) (OneHolds (DeclHolds (SharedBy names known expanded decls (body_view b))) decls) new.shared
      (shared_same names known expanded decls (body_view b) refined shared taken are by_woven takes) share
  earliest_of_body rule.Inside =
      so_far_same so_far.inside (OneHolds (DeclHolds (InsideIn own inside)) decls) (OneHolds (DeclHolds (λ instance. InsideBy (table_view table) names reach)) decls) new.inside
      (inside_same table own names reach inside named are_inside decls) has_inside
  earliest_of_body rule.LocalEvent =
      so_far_same so_far.local (OneHolds (λ (x : rust_item.Item). ItemLocal (IsAmong refined) (item_view x)) xs) (OneHolds (ItemLocal (OneHolds Decomposes decls)) (item_list (items_in (body_view b)))) new.local
      (local_same decls refined are xs (items_in (body_view b)) held) local

-- ---- a chart without decomposed instances

none_of_decls : (P : List ℕ → List ℕ → Type 0) (decls : List Decl) (q : Place) → some_refined decls ≡ false → OneHolds (DeclHolds P) decls q → ⊥
none_of_decls P decls q none h =
    let o = one_of (DeclHolds P) decls q h in
    let r = refining_of (P o.0.name) o.0.refined o.2.1 in
    none_decomposed decls o.0.name none ((decomposed_is decls o.0.name).1 (record { decl = o.0; declares = o.1; called = refl; refining = r.0; refines = r.1 }))

none_of_item : (Refined : List ℕ → Type 0) → ((name : List ℕ) → Refined name → ⊥) → (x : WovenItem) (q : Place) → ItemLocal Refined x q → ⊥
none_of_item Refined none (Single n) q h = none n.at h.1.0
none_of_item Refined none (Coregion ns) q h = h
none_of_item Refined none (Inline form part operands) q h = none h.1.name h.1.refined
none_of_item Refined none (Refer part) q h = none h.1.name h.1.refined

neither : (a b : Bool) → (a || b) ≡ false → (a ≡ false) × (b ≡ false)
neither true b h = absurd (true≢false h)
neither false b h = (refl, h)

module _ (table : Table) (names known reach expanded : List (List ℕ)) where
  none_breaks : (r : RefinementRule) (decls : List Decl) (w : Woven) (q : Place) → some_refined decls ≡ false → ContentBreaks table names known reach expanded r decls w q → ⊥
  none_breaks r decls (HighLevel drawn) q none h = h
  none_breaks rule.DecompositionMismatch decls (Basic b) q none h = none_of_decls (MismatchBy table (items_in b)) decls q none h
  none_breaks rule.SharedPart decls (Basic b) q none h = none_of_decls (SharedBy names known expanded decls b) decls q none h
  none_breaks rule.Inside decls (Basic b) q none h = none_of_decls (λ instance. InsideBy table names reach) decls q none h
  none_breaks rule.LocalEvent decls (Basic b) q none h =
      let o = one_of (ItemLocal (OneHolds Decomposes decls)) (item_list (items_in b)) q h in
      none_of_item (OneHolds Decomposes decls) (λ name d. none_decomposed decls name none d) o.0 q o.2

  pub entry_kept : (c : ChartEntry) (so_far : RefinementPlaces) → some_refined c.decls ≡ false → (r : RefinementRule) → IsLeast (SoFarOr (told r so_far) (EntryBreaks table names known reach expanded r c)) (told r so_far)
  entry_kept c so_far none r = least_kept (told r so_far) (EntryBreaks table names known reach expanded r c) (λ q h. none_breaks r c.decls c.content q none h)

  pub graph_kept : (decls : List Decl) (drawn : Graph) (so_far : RefinementPlaces) (r : RefinementRule) → IsLeast (SoFarOr (told r so_far) (ContentBreaks table names known reach expanded r decls (HighLevel drawn))) (told r so_far)
  graph_kept decls drawn so_far r = least_kept (told r so_far) (ContentBreaks table names known reach expanded r decls (HighLevel drawn)) (λ q h. h)

  none_of_table : (cs : List ChartEntry) (r : RefinementRule) (q : Place) → some_chart_refined cs ≡ false → OneHolds (EntryBreaks table names known reach expanded r) cs q → ⊥
  none_of_table [] r q none h = h
  none_of_table (c ∷ cs) r q none h = let p = neither (some_refined c.decls) (some_chart_refined cs) none in elim h [
    | inl here ↦ none_breaks r c.decls c.content q p.0 here
    | inr there ↦ none_of_table cs r q p.1 there
  ]

  pub table_none : (r : RefinementRule) (o : Option Place) → some_chart_refined table ≡ false → o ≡ None → IsLeast (TableBreaks table names known reach expanded r) o
  table_none r o none is = subst (IsLeast (TableBreaks table names known reach expanded r)) (sym is) (λ q h. none_of_table table r q none h)
