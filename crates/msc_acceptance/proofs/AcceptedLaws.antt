-- What the charts of an accepted document have, one by one and together.
use Rattle.std.proofs.Common.{◌≡◌, ◌≤◌, ◌+◌, ◌++◌, ◌⊎◌, ◌||◌, length, map, fold, arith, inl, inr, ℕ, zero, suc, Bool, true, false, List, [], ◌∷◌, Some, Option, slice_get, slice_index_or, refl, sym, subst, ap, ap₂, ◌∙◌}
use Rattle.std.specs.List.{flat_map, list_any}
use Rattle.std.specs.Str.{bytes_eq}
use Rattle.std.proofs.lemmas.Bool.{or_right}
use Rattle.std.proofs.lemmas.Slice.Eq.{bytes_eq-Decides}
use Rattle.woven_laws.specs.BuiltCharts.{BuiltChartsAreKnown, IsLinked, WovenChartsAreKnown, link_size, named_size, refinements_size}
use Rattle.woven_laws.specs.JoinSums.{level_joins}
use Rattle.chart_cycles.specs.Cycles.{AreOrdered}
use Rattle.chart_extents.specs.ExtentRules.{IsTooDeep}
use Rattle.chart_extents.specs.Extents.{HasExtent, IsExtentOf, Sized, sized_charts}
use Rattle.chart_extents.specs.OwnExtents.{own_extent}
use Rattle.chart_extents.specs.declared.extent.Extent.{Extent}
use Rattle.chart_extents.proofs.OwnLevels.{two_levels}
use Rattle.chart_forms.specs.BuiltBodies.{IsBuiltBody}
use Rattle.chart_forms.specs.TableSizes.{body_size, counted_size, entry_size, graph_size, level_size, refined_size, size_to, woven_size}
use Rattle.chart_links.specs.Links.{Link, Refers, Refines, chart_links, linked}
use Rattle.chart_links.specs.References.{IsCalled}
use Rattle.chart_links.specs.Summaries.{summary_of}
use Rattle.chart_text.specs.Texts.{chart_text}
use Rattle.chart_text.specs.WellFormed.{AreAllWellFormed, IsWellFormed}
use Rattle.creation_rules.specs.Creating.{ChartCreatesTwice}
use Rattle.formed_graphs.specs.FormedGraphs.{HasFormedGraph, HaveFormedGraphs}
use Rattle.gate_ends.specs.FoundEnds.{AreAll, GoesTo, inner_to}
use Rattle.gate_ends.specs.JoinCounts.{reference_count}
use Rattle.gate_rules.specs.GateLaws.{LevelsHaveGates}
use Rattle.general_ordering.specs.EventNames.{Twice}
use Rattle.graph_rules.specs.GraphRules.{AreLabelled, HasEndlessLine, HaveFewLines, InGraphs, content_graphs, ending_graphs, graphs_to_end}
use Rattle.msc_acceptance.proofs.ChartLaws.{IsBasic, IsDrawn, kind_of, level_of, pieces_of}
use Rattle.join_sizes.specs.JoinSizes.{AreJoinSizes}
use Rattle.join_sizes.specs.JoinSizeLaws.{JoinSizesAreKnown}
use Rattle.list_facts.proofs.Members.{among_either, among_left, among_right, at_among}
use Rattle.msc_acceptance.proofs.ExtentLaws.{adds_size, among_sized, called_chart, link_called, nests_from, nests_link, own_within, sized_at, within_nesting, within_size}
use Rattle.msc_acceptance.proofs.GraphLaws.{few_kept, labels_kept, linked_among, more_ending, own_ending, own_few, own_labelled, own_shape}
use Rattle.msc_acceptance.proofs.HeldGates.{gates_held, there_goes}
use Rattle.msc_acceptance.proofs.LimitLaws.{not_passed}
use Rattle.msc_acceptance.proofs.WalkLaws.{in_one, one_formed}
use Rattle.msc_acceptance.specs.Acceptance.{BreaksOf}
use Rattle.msc_acceptance.specs.AcceptedCharts.{EachChart, IsAcceptedBody, IsAcceptedChart, IsAcceptedContent, IsAcceptedGraph, IsAcceptedTable, IsThereTo, content_names, is_named, named_charts, table_instances, used_refinements, woven_ending}
use Rattle.msc_acceptance.specs.ChartFaults.{IsBodyOf, IsMisnamedAt}
use Rattle.msc_acceptance.specs.Deciding.{AllKept, HaveExtents, graph_groups, names, table_groups, text_groups}
use Rattle.msc_acceptance.specs.GraphFaults.{is_referred, linked_names}
use Rattle.chart_lists.specs.Listing.{content_instances, cover_of}
use Rattle.msc_acceptance.specs.Rules.{HasFurther, IsNamedAgain}
use Rattle.msc_acceptance.specs.SizedCharts.{OfSizes}
use Rattle.msc_base.proofs.NameFacts.{any_from_one, any_with_name, one_from_any}
use Rattle.msc_base.specs.Lists.{AreDifferent, IsAmong}
use Rattle.msc_base.specs.NameTables.{with_name}
use Rattle.msc_base.specs.declared.limits.TheConstants.Limits.{EXPANDED_NESTING, EXPANDED_SIZE, INSTANCES}
use Rattle.msc_base.specs.declared.place.Place.{Place}
use Rattle.msc_instances.specs.Instances.{instances, with_declared}
use Rattle.msc_instances.specs.NameFaults.{ChartNamesOther}
use Rattle.msc_instances.specs.Notes.{passage_notes, used_notes}
use Rattle.msc_meaning.specs.Bodies.{Body, ReferencePart, WovenItems}
use Rattle.msc_meaning.specs.Levels.{IsWovenLevel, woven}
use Rattle.msc_meaning.specs.Pieces.{Piece}
use Rattle.msc_meaning.specs.Tables.{ChartEntry, Table, Woven, Basic, HighLevel, Refinement, body_at, body_in, chart_at, refinements}
use Rattle.msc_meaning.specs.WovenTables.{AreEntriesOf, entry_and, IsEntryOf, IsWovenContent}
use Rattle.msc_rules.specs.FirstFaults.{Keeps}
use Rattle.msc_rules.specs.declared.rule.Rule.TheVariants.{CreateTwice, Endless, EventNamedTwice, ExpandedNesting, Instances, MissingChart, NamedTwice, Size, Undeclared}
use Rattle.msc_tree.specs.Charts.{Chart}
use Rattle.msc_tree.specs.Charts as chart
use Rattle.msc_tree.specs.Graphs.{Graph}
use Rattle.msc_tree.specs.declared.chart.Decl.{Decl}

-- ---- one chart

content_body : (c : Chart) (p : IsBasic c) (w : Woven) → IsWovenContent (instances c) c.content w → (b : Body) × (w ≡ Basic b)
content_body c p w h = by w (subst (λ (x : chart.Content). IsWovenContent (instances c) x w) p.is h)
  where
    by : (v : Woven) → IsWovenContent (instances c) (chart.Basic p.held) v → (b : Body) × (v ≡ Basic b)
    by (Basic b) g = (b, refl)
    by (HighLevel drawn) g = absurd g

content_graph : (c : Chart) (g : IsDrawn c) (w : Woven) → IsWovenContent (instances c) c.content w → w ≡ HighLevel g.drawn
content_graph c g w h = by w (subst (λ (x : chart.Content). IsWovenContent (instances c) x w) g.is h)
  where
    by : (v : Woven) → IsWovenContent (instances c) (chart.HighLevel g.drawn) v → v ≡ HighLevel g.drawn
    by (Basic b) k = absurd k
    by (HighLevel drawn) k = ap HighLevel (sym k)

-- a body covers what its level does
covers : (cover : List (List ℕ)) (ps : List Piece) (b : Body) → IsWovenLevel cover ps b → cover_of b ≡ cover
covers cover ps b (woven order items paired) = refl

-- what is known of a chart that keeps the rules on charts one by one
record KeepsOwn (c : Chart) : Type 0 where
  formed : IsWellFormed c
  named : (p : Place) → ChartNamesOther c p → ⊥
  created : (p : Place) → ChartCreatesTwice c p → ⊥
  named_once : (p : Place) → IsMisnamedAt Twice c p → ⊥
  shaped : HasFormedGraph c.content
  few : HaveFewLines (content_graphs c.content)
  labelled : AreLabelled (content_graphs c.content)

-- what a basic chart is woven to
record HasBody (c : Chart) (e : ChartEntry) : Type 0 where
  basic : IsBasic c
  body : Body
  is : e.content ≡ Basic body
  woven_to : IsBodyOf c body
  on_level : IsWovenLevel (instances c) (pieces_of c basic) body

-- the graph of a high-level chart
record HasGraph (c : Chart) (e : ChartEntry) : Type 0 where
  drawn : Graph
  from : c.content ≡ chart.HighLevel drawn
  is : e.content ≡ HighLevel drawn

entry_content : (c : Chart) (e : ChartEntry) → IsEntryOf (instances c) c e → HasBody c e ⊎ HasGraph c e
entry_content c e is = elim (kind_of c) [
  | inl p ↦
      let b = content_body c p e.content is.content in
      let woven_to : IsBodyOf c b.0 = subst (λ (x : Woven). IsWovenContent (instances c) c.content x) b.1 is.content in
      inl (record { basic = p; body = b.0; is = b.1; woven_to = woven_to; on_level = level_of c p b.0 woven_to })
  | inr g ↦ inr (record { drawn = g.drawn; from = g.is; is = content_graph c g e.content is.content })
]

pub entry_covers : (c : Chart) (e : ChartEntry) → IsEntryOf (instances c) c e → content_instances e.content ≡ instances c
entry_covers c e is = elim (entry_content c e is) [
  | inl b ↦ ap content_instances b.is ∙ covers (instances c) (pieces_of c b.basic) b.body b.on_level
  | inr g ↦ ap content_instances g.is ∙ sym (ap (λ (x : chart.Content). with_declared [] (used_notes x (flat_map passage_notes (chart_text c)))) g.from)
]

module _ (built : BuiltChartsAreKnown) (known : WovenChartsAreKnown) where
  entry_has : (c : Chart) (e : ChartEntry) → KeepsOwn c → IsEntryOf (instances c) c e → IsAcceptedChart e
  entry_has c e keeps is = elim (entry_content c e is) [ inl b ↦ of_body b | inr g ↦ of_graph g ]
    where
      of_body : HasBody c e → IsAcceptedChart e
      of_body b =
          let cover : cover_of b.body ≡ instances c = covers (instances c) (pieces_of c b.basic) b.body b.on_level in
          let accepted : IsAcceptedBody b.body = record {
            built = subst (λ (names : List (List ℕ)). IsBuiltBody names b.body) (sym cover) (built.built c b.basic.held b.body b.basic.is keeps.formed keeps.named keeps.created b.on_level);
            pieces = pieces_of c b.basic;
            woven = subst (λ (names : List (List ℕ)). IsWovenLevel names (pieces_of c b.basic) b.body) (sym cover) b.on_level;
            once = known.once (instances c) b.basic.held b.body b.on_level;
            named_once = λ q m. keeps.named_once q (record { body = b.body; woven = b.woven_to; misnamed = m });
          } in
          subst IsAcceptedContent (sym b.is) accepted

      of_graph : HasGraph c e → IsAcceptedChart e
      of_graph g =
          let accepted : IsAcceptedGraph g.drawn = record {
            formed = subst HasFormedGraph g.from keeps.shaped;
            few = subst (λ (x : chart.Content). HaveFewLines (content_graphs x)) g.from keeps.few;
            labelled = subst (λ (x : chart.Content). AreLabelled (content_graphs x)) g.from keeps.labelled;
          } in
          subst IsAcceptedContent (sym g.is) accepted

module _ (known : WovenChartsAreKnown) where
  -- what a basic chart is woven to, with the charts that refine its instances, is no larger than its text comes to with what joins add,
  -- whatever the charts count that are named
  body_light : (c : Chart) (e : ChartEntry) (is : IsEntryOf (instances c) c e) (b : HasBody c e) (size_of refining : List ℕ → ℕ) (product : WovenItems → ReferencePart → ℕ)
      → 2 + level_size size_of product b.body + refinements_size refining (refinements e.decls) ≤ (own_extent c).size + level_joins product b.body + named_size size_of refining (chart_links c)
  body_light c e is b size_of refining product =
      subst (λ (ds : List Decl). 2 + level_size size_of product b.body + refinements_size refining (refinements ds) ≤ (own_extent c).size + level_joins product b.body + named_size size_of refining (chart_links c)) (sym is.decls)
      (known.light c b.basic.held b.body size_of refining product b.basic.is b.on_level)

  -- what it names its text links
  entry_links : (c : Chart) (e : ChartEntry) → IsEntryOf (instances c) c e → (name : List ℕ) → IsAmong (content_names e.content) name → IsLinked (chart_links c) name
  entry_links c e is name m = elim (entry_content c e is) [
    | inl b ↦ known.named c b.basic.held b.body b.basic.is b.on_level name (subst (λ (w : Woven). IsAmong (content_names w) name) b.is m)
    | inr g ↦ known.nodes c g.drawn g.from name (subst (λ (w : Woven). IsAmong (content_names w) name) g.is m)
  ]

  -- and the charts that refine its instances
  refined_links : (c : Chart) (e : ChartEntry) → IsEntryOf (instances c) c e → (b : HasBody c e) (rs : List Refinement) → ((r : Refinement) → IsAmong rs r → IsAmong (refinements e.decls) r) → (name : List ℕ) → IsAmong (map (λ (r : Refinement). r.chart) rs) name → IsLinked (chart_links c) name
  refined_links c e is b [] f name m = absurd m
  refined_links c e is b (r ∷ rs) f name (inl same) = subst (IsLinked (chart_links c)) (sym same) (known.refined c b.basic.held b.basic.is r (subst (λ (ds : List Decl). IsAmong (refinements ds) r) is.decls (f r (inl refl))))
  refined_links c e is b (r ∷ rs) f name (inr m) = refined_links c e is b rs (λ q k. f q (inr k)) name m

  used_links : (c : Chart) (e : ChartEntry) → IsEntryOf (instances c) c e → (name : List ℕ) → IsAmong (map (λ (r : Refinement). r.chart) (used_refinements e.decls e.content)) name → IsLinked (chart_links c) name
  used_links c e is name m = elim (entry_content c e is) [
    | inl b ↦ refined_links c e is b (refinements e.decls) (λ r k. k) name (subst (λ (w : Woven). IsAmong (map (λ (r : Refinement). r.chart) (used_refinements e.decls w)) name) b.is m)
    | inr g ↦ absurd (subst (λ (w : Woven). IsAmong (map (λ (r : Refinement). r.chart) (used_refinements e.decls w)) name) g.is m)
  ]

  named_links : (c : Chart) (e : ChartEntry) → IsEntryOf (instances c) c e → (name : List ℕ) → IsAmong (named_charts e) name → IsLinked (chart_links c) name
  named_links c e is name m = elim (among_either (content_names e.content) (map (λ (r : Refinement). r.chart) (used_refinements e.decls e.content)) name m) [
    | inl own ↦ entry_links c e is name own
    | inr others ↦ used_links c e is name others
  ]

-- ---- the names of charts

with_kept : (names : List (List ℕ)) (n m : List ℕ) → IsAmong names m → IsAmong (with_name names n) m
with_kept names n m h = one_from_any (with_name names n) m (any_with_name names n m ∙ ap (λ (b : Bool). b || bytes_eq m n) (any_from_one names m h))

with_itself : (names : List (List ℕ)) (n : List ℕ) → IsAmong (with_name names n) n
with_itself names n = one_from_any (with_name names n) n (any_with_name names n n ∙ or_right (list_any (bytes_eq n) names) (bytes_eq n n) ((bytes_eq-Decides n n).1 refl))

abbrev pub chart_names : List Chart → List (List ℕ)
chart_names charts = map (λ (c : Chart). c.name) charts

named_apart : (seen : List (List ℕ)) (charts : List Chart) → ((p : Place) → IsNamedAgain seen charts p → ⊥) → (n : List ℕ) → IsAmong (chart_names charts) n → IsAmong seen n → ⊥
named_apart seen [] none n m s = m
named_apart seen (c ∷ charts) none n (inl e) s = none c.place (inl (refl, any_from_one seen c.name (subst (IsAmong seen) e s)))
named_apart seen (c ∷ charts) none n (inr m) s = named_apart (with_name seen c.name) charts (λ p h. none p (inr h)) n m (with_kept seen c.name n s)

pub names_differ : (seen : List (List ℕ)) (charts : List Chart) → ((p : Place) → IsNamedAgain seen charts p → ⊥) → AreDifferent (chart_names charts)
names_differ seen [] none = tt
names_differ seen (c ∷ charts) none =
    (λ m. named_apart (with_name seen c.name) charts (λ p h. none p (inr h)) c.name m (with_itself seen c.name), names_differ (with_name seen c.name) charts (λ p h. none p (inr h)))

-- charts whose names keep the rules have different names
pub kept_apart : (charts : List Chart) → Keeps (BreaksOf charts) names → AreDifferent (chart_names charts)
kept_apart charts kept = names_differ [] charts (λ p h. kept NamedTwice p (inl refl) (inl h))

pub entry_names : (charts : List Chart) (table : Table) → AreEntriesOf instances charts table → map (λ (e : ChartEntry). e.name) table ≡ chart_names charts
entry_names [] [] h = refl
entry_names [] (e ∷ table) h = elim h [ ]
entry_names (c ∷ charts) [] h = elim h [ ]
entry_names (c ∷ charts) (e ∷ table) (entry_and is others) = ap₂ (λ (n : List ℕ) (ns : List (List ℕ)). n ∷ ns) is.name (entry_names charts table others)

-- ---- charts of a list, and their entries

pub each_entry : (P : ChartEntry → Type 0) (some : List Chart) (entries : Table) → AreEntriesOf instances some entries → ((c : Chart) (e : ChartEntry) → IsAmong some c → IsEntryOf (instances c) c e → P e) → EachChart P entries
each_entry P some [] h f = tt
each_entry P [] (e ∷ entries) h f = elim h [ ]
each_entry P (c ∷ some) (e ∷ entries) (entry_and is others) f = (f c e (inl refl) is, each_entry P some entries others (λ d g m i. f d g (inr m) i))

-- the entry of a chart, by its name and by its number
record IsThere (table : Table) (i : ℕ) (c : Chart) : Type 0 where
  entry : ChartEntry
  at : chart_at table c.name ≡ Some entry
  stands : slice_get table i ≡ Some entry
  is : IsEntryOf (instances c) c entry

index_names : (charts : List Chart) (i : ℕ) (c : Chart) → slice_get charts i ≡ Some c → IsAmong (chart_names charts) c.name
index_names [] i c at = cc
index_names (d ∷ charts) zero c at = let same : d ≡ c = cc in inl (ap (λ (x : Chart). x.name) (sym same))
index_names (d ∷ charts) (suc i) c at = inr (index_names charts i c at)

entry_there : (charts : List Chart) (table : Table) → AreEntriesOf instances charts table → AreDifferent (chart_names charts) → (i : ℕ) (c : Chart) → slice_get charts i ≡ Some c → IsThere table i c
entry_there [] table h d i c at = cc
entry_there (x ∷ charts) [] h d i c at = elim h [ ]
entry_there (x ∷ charts) (e ∷ table) (entry_and is others) d zero c at =
    let same : x ≡ c = cc in
    let here : bytes_eq e.name c.name ≡ true = (bytes_eq-Decides e.name c.name).1 (is.name ∙ ap (λ (y : Chart). y.name) same) in
    record { entry = e; at = rw here refl; stands = refl; is = subst (λ (y : Chart). IsEntryOf (instances y) y e) same is }
entry_there (x ∷ charts) (e ∷ table) (entry_and is others) d (suc i) c at =
    let behind = entry_there charts table others d.1 i c at in
    record { entry = behind.entry; at = by (bytes_eq e.name c.name) refl behind.at; stands = behind.stands; is = behind.is }
  where
    by : (b : Bool) → bytes_eq e.name c.name ≡ b → {o : Option ChartEntry} → chart_at table c.name ≡ o → chart_at (e ∷ table) c.name ≡ o
    by true q f = absurd (d.0 (subst (IsAmong (chart_names charts)) (sym (sym is.name ∙ (bytes_eq-Decides e.name c.name).0 q)) (index_names charts i c at)))
    by false q f = rw q f

-- ---- instances

pub instances_within : (seen : List (List ℕ)) (charts : List Chart) (table : Table) → AreEntriesOf instances charts table → ((c : Chart) (e : ChartEntry) → IsAmong charts c → IsEntryOf (instances c) c e → content_instances e.content ≡ instances c)
    → length seen ≤ INSTANCES → ((p : Place) → HasFurther seen charts p → ⊥) → length (table_instances seen table) ≤ INSTANCES
instances_within seen charts [] h f low none = low
instances_within seen [] (e ∷ table) h f low none = elim h [ ]
instances_within seen (c ∷ charts) (e ∷ table) (entry_and is others) f low none =
    let same : fold with_name seen (content_instances e.content) ≡ fold with_name seen (instances c) = ap (fold with_name seen) (f c e (inl refl) is) in
    let few = not_passed (length seen) (length (fold with_name seen (instances c))) low (λ p. none c.place (inl (refl, p))) in
    subst (λ (s : List (List ℕ)). length (table_instances s table) ≤ INSTANCES) (sym same)
    (instances_within (fold with_name seen (instances c)) charts table others (λ d g m i. f d g (inr m) i) few (λ p g. none p (inr g)))

-- ---- the table

module _ (built : BuiltChartsAreKnown) (known : WovenChartsAreKnown) (charts : List Chart) (formed : AreAllWellFormed charts) (texts : AllKept (BreaksOf charts) text_groups) where
  pub differ : AreDifferent (chart_names charts)
  differ = names_differ [] charts (λ p h. texts.1.0 NamedTwice p (inl refl) (inl h))

  module _ (shaped : HaveFormedGraphs charts) (together : AllKept (BreaksOf charts) table_groups) (drawn : AllKept (BreaksOf charts) graph_groups) where
    keeps_own : (c : Chart) → IsAmong charts c → KeepsOwn c
    keeps_own c m = record {
      formed = one_formed charts c formed m;
      named = λ p h. texts.1.0 Undeclared p (inr (inl refl)) (in_one ChartNamesOther charts c p m h);
      created = λ p h. texts.1.1.1.1.0 CreateTwice p (inr (inr (inr (inr (inl refl))))) (in_one ChartCreatesTwice charts c p m h);
      named_once = λ p h. together.1.1.0 EventNamedTwice p (inr (inl refl)) (in_one (IsMisnamedAt Twice) charts c p m h);
      shaped = own_shape charts c m shaped;
      few = own_few charts c m (few_kept charts texts);
      labelled = own_labelled charts c m (labels_kept charts drawn);
    }

    pub are_accepted : (table : Table) → AreEntriesOf instances charts table → EachChart IsAcceptedChart table
    are_accepted table are = each_entry IsAcceptedChart charts table are (λ c e m is. entry_has built known c e (keeps_own c m) is)

  module _ (table : Table) (are : AreEntriesOf instances charts table) where
    there : (i : ℕ) (c : Chart) → slice_get charts i ≡ Some c → IsThere table i c
    there i c at = entry_there charts table are differ i c at

    called : (c : Chart) → IsAmong charts c → (l : Link) → IsAmong (chart_links c) l → IsCalled (map summary_of charts) (linked l)
    called c m l k = link_called charts (λ q h. texts.1.1.0 MissingChart q (inl refl) h) c m l k

    -- each chart that is named is there
    all_of : (P : List ℕ → Type 0) (names : List (List ℕ)) → ((n : List ℕ) → IsAmong names n → P n) → AreAll P names
    all_of P [] f = tt
    all_of P (n ∷ names) f = (f n (inl refl), all_of P names (λ m h. f m (inr h)))

    index_of : (some : List Chart) (c : Chart) → IsAmong some c → (i : ℕ) × (slice_get some i ≡ Some c)
    index_of [] c m = absurd m
    index_of (d ∷ some) c (inl e) = (0, ap Some (sym e))
    index_of (d ∷ some) c (inr m) = let (i, at) = index_of some c m in (suc i, at)

    by_name : (P : List ℕ → Type 0) (c : Chart) (e : ChartEntry) → IsEntryOf (instances c) c e → P c.name → P e.name
    by_name P c e is h = subst P (sym is.name) h

    module _ (joined : List ℕ) where
      abbrev all : List Sized
      all = sized_charts charts joined

      there_to : (depth : ℕ) (i : ℕ) (c : Chart) (e : Extent) → slice_get charts i ≡ Some c → IsExtentOf all (sized_at joined i c) e → e.nesting ≤ depth → IsThereTo table depth c.name
      there_to zero i c e at is low = let up = nests_from all (sized_at joined i c).own (chart_links c) e is in absurd (omega (arith, up, low, two_levels c))
      there_to (suc depth) i c e at is low =
          let t = there i c at in
          let m = at_among charts i c at in
          record { chart = t.entry; is = t.at; named = all_of (IsThereTo table depth) (named_charts t.entry) (λ n k. one (there_to depth) n (named_links known c t.entry t.is n k)) }
        where
          one : ((j : ℕ) (d : Chart) (x : Extent) → slice_get charts j ≡ Some d → IsExtentOf all (sized_at joined j d) x → x.nesting ≤ depth → IsThereTo table depth d.name) → (n : List ℕ) → IsLinked (chart_links c) n → IsThereTo table depth n
          one below n linked_by =
              let (x, has, deep) = nests_link all (sized_at joined i c).own (chart_links c) e is linked_by.link linked_by.says in
              let h = called_chart charts joined linked_by.link x (called c (at_among charts i c at) linked_by.link linked_by.says) has in
              subst (IsThereTo table depth) (h.named ∙ linked_by.is) (below h.i h.c x h.at h.comes (omega (arith, deep, low, linked_by.deep)))

      reached : HaveExtents all → ((q : Place) → IsTooDeep all q → ⊥) → (c : Chart) → IsAmong charts c → IsThereTo table EXPANDED_NESTING c.name
      reached extents none c m =
          let (i, at) = index_of charts c m in
          let among = among_sized charts joined i c at in
          let (e, is) = extents (sized_at joined i c) among in
          there_to EXPANDED_NESTING i c e at is (within_nesting charts joined none (sized_at joined i c) e among is)

      -- so is each that a chart names
      linked_goes : HaveExtents all → ((q : Place) → IsTooDeep all q → ⊥) → (c : Chart) → IsAmong charts c → (n : List ℕ) → IsLinked (chart_links c) n → GoesTo table EXPANDED_NESTING n
      linked_goes extents none c m n linked_by =
          let (i, at) = index_of charts c m in
          let (e, is) = extents (sized_at joined i c) (among_sized charts joined i c at) in
          let (x, has, deep) = nests_link all (sized_at joined i c).own (chart_links c) e is linked_by.link linked_by.says in
          let h = called_chart charts joined linked_by.link x (called c m linked_by.link linked_by.says) has in
          there_goes table EXPANDED_NESTING n (subst (IsThereTo table EXPANDED_NESTING) (h.named ∙ linked_by.is) (reached extents none h.c (at_among charts h.i h.c h.at)))

      -- and is no larger than its text comes to
      module _ (law : JoinSizesAreKnown) (sizes : AreJoinSizes charts joined) where
        abbrev size_by : ℕ → List ℕ → ℕ
        size_by depth name = size_to (λ k. reference_count (inner_to table k)) table depth name

        -- a chart that refines an instance counts its own level
        abbrev body_by : ℕ → List ℕ → ℕ
        body_by depth name = body_size (size_by depth) (reference_count (inner_to table depth)) (body_at table name)

        refined_by : (depth : ℕ) (rs : List Refinement) → refined_size (size_by depth) (reference_count (inner_to table depth)) table rs ≡ refinements_size (body_by depth) rs
        refined_by depth [] = refl
        refined_by depth (r ∷ rs) = omega (arith, refined_by depth rs)

        -- the size of what a chart is woven to
        basic_by : (depth : ℕ) (rs : List Refinement) (b : Body)
            → woven_size (size_by depth) (reference_count (inner_to table depth)) table rs (Basic b) ≤ 2 + level_size (size_by depth) (reference_count (inner_to table depth)) b + refinements_size (body_by depth) rs
        basic_by depth [] b = omega arith
        basic_by depth (r ∷ rs) b = omega (arith, refined_by depth (r ∷ rs))

        woven_by : (depth : ℕ) (rs : List Refinement) (w : Woven) (b : Body) → w ≡ Basic b
            → woven_size (size_by depth) (reference_count (inner_to table depth)) table rs w ≤ 2 + level_size (size_by depth) (reference_count (inner_to table depth)) b + refinements_size (body_by depth) rs
        woven_by depth rs w b is =
            subst (λ (v : Woven). woven_size (size_by depth) (reference_count (inner_to table depth)) table rs v ≤ 2 + level_size (size_by depth) (reference_count (inner_to table depth)) b + refinements_size (body_by depth) rs) (sym is) (basic_by depth rs b)

        -- a graph has no refining charts
        drawn_size : (depth : ℕ) (rs : List Refinement) (drawn : Graph) → woven_size (size_by depth) (reference_count (inner_to table depth)) table rs (HighLevel drawn) ≡ graph_size (size_by depth) (reference_count (inner_to table depth)) drawn
        drawn_size depth [] drawn = refl
        drawn_size depth (r ∷ rs) drawn = refl

        -- of each chart whose text comes to so much
        abbrev CountsWithin : (List ℕ → ℕ) → Type 0
        CountsWithin count = (j : ℕ) (d : Chart) (x : Extent) → slice_get charts j ≡ Some d → IsExtentOf all (sized_at joined j d) x → x.size ≤ EXPANDED_SIZE → count d.name ≤ x.size

        of_link : (size_of refining : List ℕ → ℕ) → CountsWithin size_of → CountsWithin refining → (i : ℕ) (c : Chart) (e : Extent) → slice_get charts i ≡ Some c → e.size ≤ EXPANDED_SIZE
            → (l : Link) (x : Extent) → IsAmong (chart_links c) l → HasExtent all (linked l) x → x.size ≤ e.size → link_size size_of refining l ≤ x.size
        of_link size_of refining small others i c e at low (Refers name place scope deep) x k has within =
            let h = called_chart charts joined (Refers name place scope deep) x (called c (at_among charts i c at) (Refers name place scope deep) k) has in
            subst (λ (n : List ℕ). size_of n ≤ x.size) h.named (small h.i h.c x h.at h.comes (omega (arith, within, low)))
        of_link size_of refining small others i c e at low (Refines instance name place) x k has within =
            let h = called_chart charts joined (Refines instance name place) x (called c (at_among charts i c at) (Refines instance name place) k) has in
            subst (λ (n : List ℕ). refining n ≤ x.size) h.named (others h.i h.c x h.at h.comes (omega (arith, within, low)))

        -- of a basic chart: its level, with the charts that refine instances
        summed : (depth : ℕ) (refining : List ℕ → ℕ) → CountsWithin (size_by depth) → CountsWithin refining → (i : ℕ) (c : Chart) (e : Extent) (at : slice_get charts i ≡ Some c) → IsExtentOf all (sized_at joined i c) e → e.size ≤ EXPANDED_SIZE → (t : IsThere table i c) (b : HasBody c t.entry)
            → 2 + level_size (size_by depth) (reference_count (inner_to table depth)) b.body + refinements_size refining (refinements t.entry.decls) ≤ e.size
        summed depth refining small others i c e at is low t b =
            let product = reference_count (inner_to table depth) in
            let light = body_light known c t.entry t.is b (size_by depth) refining product in
            let sum = adds_size all (size_by depth) refining (sized_at joined i c).own (chart_links c) e (of_link (size_by depth) refining small others i c e at low) is in
            let own = own_within all (sized_at joined i c) e is in
            let joins : level_joins product b.body ≤ slice_index_or joined i 0 = law.enough charts table joined i c t.entry b.body depth sizes are at t.stands b.is (omega (arith, own, low)) in
            omega (arith, light, sum, joins)

        -- of a high-level chart: its graph
        drawn_summed : (depth : ℕ) → CountsWithin (size_by depth) → (i : ℕ) (c : Chart) (e : Extent) (at : slice_get charts i ≡ Some c) → IsExtentOf all (sized_at joined i c) e → e.size ≤ EXPANDED_SIZE → (t : IsThere table i c) (g : HasGraph c t.entry)
            → graph_size (size_by depth) (reference_count (inner_to table depth)) g.drawn ≤ e.size
        drawn_summed depth small i c e at is low t g =
            let light = known.drawn c g.drawn (size_by depth) (λ n. 0) (reference_count (inner_to table depth)) g.from in
            let sum = adds_size all (size_by depth) (λ n. 0) (sized_at joined i c).own (chart_links c) e (of_link (size_by depth) (λ n. 0) small (λ j d x h k f. omega arith) i c e at low) is in
            omega (arith, light, sum)

        content_in : (e : ChartEntry) (w : Woven) → e.content ≡ w → body_in (Some e) ≡ body_in (Some (record { name = e.name; decls = e.decls; content = w }))
        content_in e w is = ap (λ (v : Woven). body_in (Some (record { name = e.name; decls = e.decls; content = v }))) is

        bodies_small : (depth : ℕ) → CountsWithin (size_by depth) → CountsWithin (body_by depth)
        bodies_small depth small j d x at is low =
            let t = there j d at in
            let count = body_size (size_by depth) (reference_count (inner_to table depth)) in
            elim (entry_content d t.entry t.is) [
              | inl b ↦
                  let sum = summed depth (λ n. 0) small (λ k c y h g f. omega arith) j d x at is low t b in
                  let same : body_by depth d.name ≡ 2 + level_size (size_by depth) (reference_count (inner_to table depth)) b.body = ap count (ap body_in t.at ∙ content_in t.entry (Basic b.body) b.is) in
                  omega (arith, sum, same)
              | inr g ↦ let same : body_by depth d.name ≡ 0 = ap count (ap body_in t.at ∙ content_in t.entry (HighLevel g.drawn) g.is) in omega (arith, same)
            ]

        small_to : (depth : ℕ) (i : ℕ) (c : Chart) (e : Extent) → slice_get charts i ≡ Some c → IsExtentOf all (sized_at joined i c) e → e.size ≤ EXPANDED_SIZE → size_by depth c.name ≤ e.size
        small_to zero i c e at is low = omega arith
        small_to (suc depth) i c e at is low =
            let t = there i c at in
            let product = reference_count (inner_to table depth) in
            let same : size_by (suc depth) c.name ≡ woven_size (size_by depth) product table (refinements t.entry.decls) t.entry.content = ap (entry_size (size_by depth) product table) t.at in
            elim (entry_content c t.entry t.is) [
              | inl b ↦
                  let sum = summed depth (body_by depth) (small_to depth) (bodies_small depth (small_to depth)) i c e at is low t b in
                  omega (arith, sum, same, woven_by depth (refinements t.entry.decls) t.entry.content b.body b.is)
              | inr g ↦
                  let sum = drawn_summed depth (small_to depth) i c e at is low t g in
                  let drawn : woven_size (size_by depth) product table (refinements t.entry.decls) t.entry.content ≡ graph_size (size_by depth) product g.drawn =
                  ap (λ (w : Woven). woven_size (size_by depth) product table (refinements t.entry.decls) w) g.is ∙ drawn_size depth (refinements t.entry.decls) g.drawn in
                  omega (arith, sum, same, drawn)
            ]

    -- ---- by the sizes that the document has

    none_deep : (h : OfSizes charts HaveExtents) → (q : Place) → IsTooDeep (sized_charts charts h.joined) q → ⊥
    none_deep h q deep = texts.1.1.1.0 ExpandedNesting q (inl refl) (record { joined = h.joined; are = h.are; holds = deep })

    pub all_there : OfSizes charts HaveExtents → EachChart (λ (e : ChartEntry). IsThereTo table EXPANDED_NESTING e.name) table
    all_there h = each_entry (λ (e : ChartEntry). IsThereTo table EXPANDED_NESTING e.name) charts table are (λ c e m is. by_name (λ n. IsThereTo table EXPANDED_NESTING n) c e is (reached h.joined h.holds (none_deep h) c m))

    names_go : OfSizes charts HaveExtents → EachChart (λ (e : ChartEntry). AreAll (GoesTo table EXPANDED_NESTING) (content_names e.content)) table
    names_go h = each_entry (λ (e : ChartEntry). AreAll (GoesTo table EXPANDED_NESTING) (content_names e.content)) charts table are
        (λ c e m is. all_of (GoesTo table EXPANDED_NESTING) (content_names e.content) (λ n k. linked_goes h.joined h.holds (none_deep h) c m n (entry_links known c e is n k)))

    pub accepted_table : LevelsHaveGates → JoinSizesAreKnown → HaveFormedGraphs charts → AllKept (BreaksOf charts) table_groups → AllKept (BreaksOf charts) graph_groups → AreOrdered table EXPANDED_NESTING table → OfSizes charts HaveExtents → IsAcceptedTable table
    accepted_table law sizes shaped together drawn ordered h = record {
      charts = are_accepted shaped together drawn table are;
      different = subst AreDifferent (sym (entry_names charts table are)) differ;
      few_instances = instances_within [] charts table are (λ c e m is. entry_covers c e is) (omega arith) (λ p h. texts.0 Instances p (inr (inl refl)) h);
      there = all_there h;
      gates = gates_held charts table are together law (names_go h);
      small = each_entry (λ (e : ChartEntry). counted_size table e.name ≤ EXPANDED_SIZE) charts table are (λ c e m is. by_name (λ n. counted_size table n ≤ EXPANDED_SIZE) c e is (light c m));
      ordered = ordered;
      ending = each_entry (λ (e : ChartEntry). (q : Place) → InGraphs HasEndlessLine (woven_ending (is_named table e.name) e.content) q → ⊥) charts table are
          (λ c e m is q x. drawn.1.0 Endless q (inl refl) (own_ending charts c m (is_referred charts) q (ends c e is q x)));
    }
      where
        -- what the table names the texts link
        named_in : (some : List Chart) (entries : Table) → AreEntriesOf instances some entries → (n : List ℕ) → IsAmong (flat_map named_charts entries) n → IsAmong (linked_names some) n
        named_in [] [] h n k = absurd k
        named_in [] (x ∷ entries) h n k = elim h [ ]
        named_in (d ∷ some) [] h n k = absurd k
        named_in (d ∷ some) (x ∷ entries) (entry_and is others) n k = elim (among_either (named_charts x) (flat_map named_charts entries) n k) [
          | inl own ↦ among_left (map linked (chart_links d)) (linked_names some) n (linked_among (chart_links d) n (named_links known d x is n own))
          | inr more ↦ among_right (map linked (chart_links d)) (linked_names some) n (named_in some entries others n more)
        ]

        named_referred : (n : List ℕ) → is_named table n ≡ true → is_referred charts n ≡ true
        named_referred n e = any_from_one (linked_names charts) n (named_in charts table are n (one_from_any (flat_map named_charts table) n e))

        ends : (c : Chart) (e : ChartEntry) → IsEntryOf (instances c) c e → (q : Place) → InGraphs HasEndlessLine (woven_ending (is_named table e.name) e.content) q → InGraphs HasEndlessLine (ending_graphs (is_referred charts c.name) c.content) q
        ends c e is q x = elim (entry_content c e is) [
          | inl b ↦ absurd (subst (λ (w : Woven). InGraphs HasEndlessLine (woven_ending (is_named table e.name) w) q) b.is x)
          | inr g ↦
              let named : InGraphs HasEndlessLine (graphs_to_end (is_named table e.name) g.drawn) q = subst (λ (w : Woven). InGraphs HasEndlessLine (woven_ending (is_named table e.name) w) q) g.is x in
              subst (λ (y : chart.Content). InGraphs HasEndlessLine (ending_graphs (is_referred charts c.name) y) q) (sym g.from)
              (more_ending g.drawn (is_named table e.name) (is_referred charts c.name) (λ t. subst (λ (n : List ℕ). is_referred charts n ≡ true) is.name (named_referred e.name t)) q named)
        ]

        light : (c : Chart) → IsAmong charts c → counted_size table c.name ≤ EXPANDED_SIZE
        light c m =
            let (i, at) = index_of charts c m in
            let among = among_sized charts h.joined i c at in
            let (e, is) = h.holds (sized_at h.joined i c) among in
            let within = within_size charts h.joined (λ q large. texts.1.1.1.0 Size q (inr (inl refl)) (record { joined = h.joined; are = h.are; holds = large })) (sized_at h.joined i c) e among is in
            let small : counted_size table c.name ≤ e.size = small_to h.joined sizes h.are EXPANDED_NESTING i c e at is within in
            omega (arith, small, within)
