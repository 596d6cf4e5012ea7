-- There is one list of what joins add, and it has no less than what is counted in a table of woven charts.
use Rattle.std.proofs.Common.{◌≡◌, ◌≤◌, inl, inr, ℕ, zero, suc, min, Bool, true, false, List, [], ◌∷◌, Option, None, Some, map, slice_get, slice_index_or, refl, sym, subst, ap, ap₂, ◌∙◌, arith}
use Rattle.std.proofs.lemmas.Bool.{cases_lt}
use Rattle.std.proofs.lemmas.Slice.Eq.{bytes_eq-Decides}
use Rattle.std.specs.Str.{bytes_eq}
use Rattle.chart_forms.specs.TiedTexts.{are_tied, is_tied_text}
use Rattle.chart_text.specs.Texts.{chart_text}
use Rattle.gate_ends.specs.EndLaws.{EndsAreFound}
use Rattle.gate_ends.specs.FoundEnds.{AreAll, GoesTo, body_inner, body_names, event_count, inner_to, level_inner, seen_in}
use Rattle.gate_ends.specs.JoinCounts.{levels_count, reference_count}
use Rattle.gate_tables.specs.GateFacts.{most_counted}
use Rattle.join_sizes.specs.JoinSizes.{AreJoinSizes, table_joins, tied, untied}
use Rattle.join_sizes.specs.JoinSizeLaws.{JoinSizesAreKnown}
use Rattle.level_gathering.specs.GatheredCharts.{AreGathered, IsGatheredChart, a_basic, a_graph, chart_and, gathered_entry, no_chart}
use Rattle.level_gathering.specs.GatheringLaws.{GatheredTableIsOne}
use Rattle.msc_base.specs.declared.limits.TheConstants.Limits.{TOTAL_SIZE}
use Rattle.msc_instances.specs.Instances.{instances}
use Rattle.msc_meaning.specs.Bodies.{Body}
use Rattle.msc_meaning.specs.BodyLevels.{body_levels}
use Rattle.msc_meaning.specs.Levels.{IsWovenLevel}
use Rattle.msc_meaning.specs.Pieces.{statements_pieces}
use Rattle.msc_meaning.specs.Tables.{Basic, ChartEntry, HighLevel, Table, Woven, body_at, body_in, chart_at}
use Rattle.msc_meaning.specs.WovenTables.{AreEntriesOf, IsEntryOf, IsWovenContent, entry_and, no_entries}
use Rattle.msc_tree.specs.Charts.{Chart, Content}
use Rattle.msc_tree.specs.Charts as chart
use Rattle.msc_tree.specs.Statements.{Reference, Statement, statements}
use Rattle.woven_laws.proofs.EventCounts.{seen_count}
use Rattle.woven_laws.specs.JoinSums.{level_joins}
use Rattle.woven_laws.specs.JoinedCharts.{GatheredChartsAreKnown, Inner, IsFewer}

-- ---- every name, where the charts of a table are no deeper

abbrev names_of : Table → List (List ℕ)
names_of table = map (λ (c : ChartEntry). c.name) table

module _ (P : List ℕ → Type 0) (name : List ℕ) where
  named_at : (table : Table) (c : ChartEntry) → AreAll P (names_of table) → chart_at table name ≡ Some c → P name
  named_at [] c h is = cc
  named_at (d ∷ table) c h is = by (bytes_eq d.name name) refl (λ e. named_at table c h.1 (rw e at is))
    where
      by : (b : Bool) → bytes_eq d.name name ≡ b → (bytes_eq d.name name ≡ false → P name) → P name
      by true e later = subst P ((bytes_eq-Decides d.name name).0 e) h.0
      by false e later = later e

pub all_go : (table : Table) (d : ℕ) → AreAll (GoesTo table (suc d)) (names_of table) → (name : List ℕ) → GoesTo table (suc d) name
all_go table d h name = by (chart_at table name) refl
  where
    by : (o : Option ChartEntry) → chart_at table name ≡ o → GoesTo table (suc d) name
    by None e = subst (λ (x : Option ChartEntry). AreAll (GoesTo table d) (body_names (body_in x))) (sym e) tt
    by (Some c) e = named_at (GoesTo table (suc d)) name table c h e

module _ (found : EndsAreFound) where
  -- the inner events of the gates of charts are the same at each such depth
  same_at : (table : Table) (d e : ℕ) → suc d ≤ suc e → AreAll (GoesTo table (suc d)) (names_of table) → inner_to table (suc e) ≡ inner_to table (suc d)
  same_at table d e le h = λ i name g. found.same table (suc d) (suc e) name g le (all_go table d h name) i

  pub same_inner : (table : Table) (d e : ℕ) → AreAll (GoesTo table (suc d)) (names_of table) → AreAll (GoesTo table (suc e)) (names_of table) → inner_to table (suc d) ≡ inner_to table (suc e)
  same_inner table d e h k = elim (cases_lt d e) [
    | inl lt ↦ sym (same_at table d e (omega (arith, lt)) h)
    | inr ge ↦ same_at table e d (omega (arith, ge)) k
  ]

  -- ---- the charts of both tables

  -- a chart of that name, as it is woven and as it is gathered
  record IsBoth (gathered : Table) (name : List ℕ) (b : Body) : Type 0 where
    c : Chart
    other : Body
    references : List (List Reference)
    is_woven : IsWovenContent (instances c) c.content (Basic b)
    is_gathered : IsGatheredChart c other references
    at : body_at gathered name ≡ Some other

  content_body : (c : ChartEntry) (w : Woven) (b : Body) → c.content ≡ w → body_in (Some c) ≡ Some b → w ≡ Basic b
  content_body c (Basic x) b e is =
      let same : body_in (Some (record { name = c.name; decls = c.decls; content = Basic x })) ≡ Some b = subst (λ (v : Woven). body_in (Some (record { name = c.name; decls = c.decls; content = v })) ≡ Some b) e is in
      let one : x ≡ b = cc in
      ap Basic one
  content_body c (HighLevel drawn) b e is =
      let bad : body_in (Some (record { name = c.name; decls = c.decls; content = HighLevel drawn })) ≡ Some b = subst (λ (v : Woven). body_in (Some (record { name = c.name; decls = c.decls; content = v })) ≡ Some b) e is in
      cc

  both_at : (charts : List Chart) (table gathered : Table) (references : List (List (List Reference))) (name : List ℕ) (b : Body) → AreEntriesOf instances charts table → AreGathered charts gathered references → body_at table name ≡ Some b → IsBoth gathered name b
  both_at [] [] [] [] name b no_entries no_chart is = cc
  both_at [] [] [] (r ∷ references) name b h k is = elim k [ ]
  both_at [] [] (x ∷ gathered) references name b h k is = elim k [ ]
  both_at [] (e ∷ table) gathered references name b h k is = elim h [ ]
  both_at (c ∷ charts) [] gathered references name b h k is = elim h [ ]
  both_at (c ∷ charts) (e ∷ table) [] references name b h k is = elim k [ ]
  both_at (c ∷ charts) (e ∷ table) (x ∷ gathered) [] name b h k is = elim k [ ]
  both_at (c ∷ charts) (e ∷ table) (_ ∷ gathered) (r ∷ references) name b (entry_and is_entry entries) (chart_and {body = other} is_gathered others) is =
      by (bytes_eq c.name name) refl (λ q. both_at charts table gathered references name b entries others (let there : bytes_eq e.name name ≡ false = ap (λ (n : List ℕ). bytes_eq n name) is_entry.name ∙ q in rw there at is))
    where
      named : bytes_eq e.name name ≡ bytes_eq c.name name
      named = ap (λ (n : List ℕ). bytes_eq n name) is_entry.name

      by : (t : Bool) → bytes_eq c.name name ≡ t → (bytes_eq c.name name ≡ false → IsBoth gathered name b) → IsBoth (gathered_entry c.name other ∷ gathered) name b
      by true q later =
          let there : bytes_eq e.name name ≡ true = named ∙ q in
          let here : body_in (Some e) ≡ Some b = rw there at is in
          record {
            c = c;
            other = other;
            references = r;
            is_woven = subst (λ (w : Woven). IsWovenContent (instances c) c.content w) (content_body e e.content b refl here) is_entry.content;
            is_gathered = is_gathered;
            at = rw q refl;
          }
      by false q later =
          let h = later q in
          record { c = h.c; other = h.other; references = h.references; is_woven = h.is_woven; is_gathered = h.is_gathered; at = rw q h.at }

  module _ (known : GatheredChartsAreKnown) where
    level_of : (c : Chart) (held : List Statement) (b : Body) → c.content ≡ chart.Basic held → IsWovenContent (instances c) c.content (Basic b) → IsWovenLevel (instances c) (statements_pieces (instances c) 0 (statements held)) b
    level_of c held b is w = subst (λ (x : Content). IsWovenContent (instances c) x (Basic b)) is w

    chart_counted : (few many : Inner) → IsFewer few many → (c : Chart) (b other : Body) (references : List (List Reference)) → IsWovenContent (instances c) c.content (Basic b) → IsGatheredChart c other references
        → (g : List ℕ) → event_count (level_inner few b g) ≤ event_count (level_inner many other g)
    chart_counted few many low c b other references w (a_basic held is k) g = known.counted few many (instances c) (statements_pieces (instances c) 0 (statements held)) b other references low (level_of c held b is w) k g
    chart_counted few many low c b _ _ w (a_graph drawn is) g = absurd (subst (λ (x : Content). IsWovenContent (instances c) x (Basic b)) is w)

    chart_joined : (few many : Inner) → IsFewer few many → (c : Chart) (b other : Body) (references : List (List Reference)) → IsWovenContent (instances c) c.content (Basic b) → IsGatheredChart c other references
        → level_joins (reference_count few) b ≤ levels_count many (body_levels other) references
    chart_joined few many low c b other references w (a_basic held is k) = known.joined few many (instances c) (statements_pieces (instances c) 0 (statements held)) b other references low (level_of c held b is w) k
    chart_joined few many low c b _ _ w (a_graph drawn is) = absurd (subst (λ (x : Content). IsWovenContent (instances c) x (Basic b)) is w)

    module _ (charts : List Chart) (table gathered : Table) (references : List (List (List Reference))) (d : ℕ) (entries : AreEntriesOf instances charts table) (are : AreGathered charts gathered references) (deep : AreAll (GoesTo gathered (suc d)) (names_of gathered)) where
      abbrev many_of : Inner
      many_of = inner_to gathered (suc d)

      one_fewer : (few : Inner) → IsFewer few many_of → (name g : List ℕ) (o : Option Body) → body_at table name ≡ o → event_count (body_inner few name o g) ≤ event_count (many_of name g)
      one_fewer few low name g None e = omega arith
      one_fewer few low name g (Some b) e =
          let h = both_at charts table gathered references name b entries are e in
          let here : event_count (level_inner few b g) ≤ event_count (level_inner many_of h.other g) = chart_counted few many_of low h.c b h.other h.references h.is_woven h.is_gathered g in
          let seen : event_count (inner_to gathered (suc (suc d)) name g) ≡ event_count (seen_in name (level_inner many_of h.other g)) = ap (λ (x : Option Body). event_count (body_inner many_of name x g)) h.at in
          let deeper : event_count (inner_to gathered (suc (suc d)) name g) ≡ event_count (many_of name g) = ap (λ (inner : Inner). event_count (inner name g)) (same_at gathered d (suc d) (omega arith) deep) in
          omega (arith, here, seen, deeper, seen_count name (level_inner few b g), seen_count name (level_inner many_of h.other g))

      fewer : (k : ℕ) → IsFewer (inner_to table k) many_of
      fewer zero name g = omega arith
      fewer (suc k) name g = one_fewer (inner_to table k) (fewer k) name g (body_at table name) refl

    -- ---- what is told of a chart

    record IsTold (inner : Inner) (c : Chart) (told : ℕ) : Type 0 where
      other : Body
      references : List (List Reference)
      is : IsGatheredChart c other references
      at : told ≡ min (levels_count inner (body_levels other) references) most_counted

    told_at : (inner : Inner) (charts : List Chart) (gathered : Table) (references : List (List (List Reference))) (i : ℕ) (c : Chart) → AreGathered charts gathered references → slice_get charts i ≡ Some c → IsTold inner c (slice_index_or (table_joins inner gathered references) i 0)
    told_at inner [] _ _ i c no_chart at = cc
    told_at inner (d ∷ charts) _ _ zero c (chart_and {body = other} {references = r} is others) at =
        let same : d ≡ c = cc in
        record { other = other; references = r; is = subst (λ (x : Chart). IsGatheredChart x other r) same is; at = refl }
    told_at inner (d ∷ charts) _ _ (suc i) c (chart_and {table = gathered} {others = references} is others) at =
        let h = told_at inner charts gathered references i c others at in
        record { other = h.other; references = h.references; is = h.is; at = h.at }

    entry_at : (charts : List Chart) (table : Table) (i : ℕ) (c : Chart) (e : ChartEntry) → AreEntriesOf instances charts table → slice_get charts i ≡ Some c → slice_get table i ≡ Some e → IsEntryOf (instances c) c e
    entry_at [] _ i c e no_entries at there = cc
    entry_at (d ∷ charts) [] i c e h at there = elim h [ ]
    entry_at (d ∷ charts) (f ∷ table) zero c e (entry_and is others) at there =
        let same : d ≡ c = cc in
        let entry : f ≡ e = cc in
        subst (λ (x : Chart). IsEntryOf (instances x) x e) same (subst (λ (y : ChartEntry). IsEntryOf (instances d) d y) entry is)
    entry_at (d ∷ charts) (f ∷ table) (suc i) c e (entry_and is others) at there = entry_at charts table i c e others at there

    within : (x told : ℕ) → told ≡ min x most_counted → told ≤ TOTAL_SIZE → x ≤ told
    within x told is low = elim (cases_lt x most_counted) [
      | inl lt ↦ omega (arith, is, lt)
      | inr ge ↦ absurd (omega (arith, is, ge, low))
    ]

    -- no chart is tied where none of all is
    untied_at : (charts : List Chart) (i : ℕ) (c : Chart) → are_tied charts ≡ false → slice_get charts i ≡ Some c → is_tied_text (chart_text c) ≡ false
    untied_at [] i c h at = cc
    untied_at (d ∷ charts) i c h at = by (is_tied_text (chart_text d)) refl (λ behind j there. untied_at charts j c behind there) i at
      where
        by : (t : Bool) → is_tied_text (chart_text d) ≡ t → (are_tied charts ≡ false → (j : ℕ) → slice_get charts j ≡ Some c → is_tied_text (chart_text c) ≡ false) → (j : ℕ) → slice_get (d ∷ charts) j ≡ Some c → is_tied_text (chart_text c) ≡ false
        by true q later j there = let bad : true ≡ false = rw q at h in absurd cc
        by false q later zero there = let same : d ≡ c = cc in subst (λ (x : Chart). is_tied_text (chart_text x) ≡ false) same q
        by false q later (suc j) there = let behind : are_tied charts ≡ false = rw q at h in later behind j there

    nothing_joined : (c : Chart) (e : ChartEntry) (b : Body) (inner : Inner) → IsEntryOf (instances c) c e → e.content ≡ Basic b → is_tied_text (chart_text c) ≡ false → level_joins (reference_count inner) b ≡ 0
    nothing_joined c e b inner is content none = by c.content refl (subst (λ (w : Woven). IsWovenContent (instances c) c.content w) content is.content)
      where
        by : (x : Content) → c.content ≡ x → IsWovenContent (instances c) c.content (Basic b) → level_joins (reference_count inner) b ≡ 0
        by (chart.Basic held) q w = known.untied c held b inner q none (level_of c held b q w)
        by (chart.HighLevel drawn) q w = absurd (subst (λ (y : Content). IsWovenContent (instances c) y (Basic b)) q w)

    enough : (charts : List Chart) (table : Table) (sizes : List ℕ) (i : ℕ) (c : Chart) (e : ChartEntry) (b : Body) (depth : ℕ) → AreJoinSizes charts sizes → AreEntriesOf instances charts table → slice_get charts i ≡ Some c → slice_get table i ≡ Some e
        → e.content ≡ Basic b → slice_index_or sizes i 0 ≤ TOTAL_SIZE → level_joins (reference_count (inner_to table depth)) b ≤ slice_index_or sizes i 0
    enough charts table sizes i c e b depth (untied none is) entries at there content low =
        omega (arith, nothing_joined c e b (inner_to table depth) (entry_at charts table i c e entries at there) content (untied_at charts i c none at))
    enough charts table sizes i c e b depth (tied gathered references d some are deep is) entries at there content low =
        let inner = inner_to gathered (suc d) in
        let told = told_at inner charts gathered references i c are at in
        let same : slice_index_or sizes i 0 ≡ slice_index_or (table_joins inner gathered references) i 0 = ap (λ (l : List ℕ). slice_index_or l i 0) is in
        let entry = entry_at charts table i c e entries at there in
        let joined : level_joins (reference_count (inner_to table depth)) b ≤ levels_count inner (body_levels told.other) told.references =
        chart_joined (inner_to table depth) inner (fewer charts table gathered references d entries are deep depth) c b told.other told.references (subst (λ (w : Woven). IsWovenContent (instances c) c.content w) content entry.content) told.is in
        omega (arith, joined, within (levels_count inner (body_levels told.other) told.references) (slice_index_or sizes i 0) (same ∙ told.at) low)

    -- ---- one list

    one : GatheredTableIsOne → (charts : List Chart) (sizes others : List ℕ) → AreJoinSizes charts sizes → AreJoinSizes charts others → sizes ≡ others
    one law charts sizes others (untied none is) (untied other are) = is ∙ sym are
    one law charts sizes others (untied none is) (tied gathered references d some are deep same) = let bad : true ≡ false = sym some ∙ none in absurd cc
    one law charts sizes others (tied gathered references d some are deep same) (untied none is) = let bad : true ≡ false = sym some ∙ none in absurd cc
    one law charts sizes others (tied first references d some are deep is) (tied second lists e more too deeper same) =
        let both = law charts first second references lists are too in
        let moved : AreAll (GoesTo first (suc e)) (names_of first) = subst (λ (t : Table). AreAll (GoesTo t (suc e)) (names_of t)) (sym both.0) deeper in
        is ∙ ap (λ (inner : Inner). table_joins inner first references) (same_inner first d e deep moved) ∙ ap₂ (λ (t : Table) (l : List (List (List Reference))). table_joins (inner_to t (suc e)) t l) both.0 both.1 ∙ sym same

pub join_sizes_are_known : EndsAreFound → GatheredChartsAreKnown → GatheredTableIsOne → JoinSizesAreKnown
join_sizes_are_known found known law = record {
  one = one found known law;
  enough = λ charts table sizes i c e b depth are entries at there content low. enough found known charts table sizes i c e b depth are entries at there content low;
}
