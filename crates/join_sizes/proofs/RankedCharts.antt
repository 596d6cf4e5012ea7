-- Where ranks fall along links, a gathered chart goes no deeper than its rank.
use Rattle.std.proofs.Common.{◌≡◌, ◌<◌, ◌+◌, ℕ, zero, suc, Bool, true, false, List, [], ◌∷◌, Option, None, Some, map, slice_get, get_or, refl, sym, ap, subst, ◌∙◌, inl, inr, arith}
use Rattle.std.proofs.lemmas.Slice.Eq.{bytes_eq-Decides}
use Rattle.std.specs.Str.{bytes_eq}
use Rattle.chart_forms.specs.TiedTexts.{are_tied}
use Rattle.chart_links.specs.Links.{Link, chart_links, linked}
use Rattle.chart_links.specs.Ranks.{AreRanks}
use Rattle.chart_links.specs.Summaries.{summary_of}
use Rattle.gate_ends.specs.FoundEnds.{AreAll, GoesTo, body_names, inner_to, level_names}
use Rattle.join_sizes.specs.JoinSizes.{AreJoinSizes, table_joins, tied}
use Rattle.join_sizes.specs.Named.{NamesAreLinked, names_of}
use Rattle.level_gathering.specs.GatheredCharts.{AreGathered, IsGatheredChart, a_basic, a_graph, chart_and, no_chart}
use Rattle.msc_base.specs.Lists.{AreDifferent, IsAmong}
use Rattle.msc_meaning.specs.Bodies.{Body}
use Rattle.msc_meaning.specs.Tables.{ChartEntry, Table, body_at}
use Rattle.msc_meaning.specs.Views.{table_view}
use Rattle.msc_meaning.specs.declared.body.ChartEntry as rust_chart
use Rattle.msc_tree.specs.Charts.{Chart}
use Rattle.msc_tree.specs.Statements.{Reference}

-- ---- names

gathered_names : (charts : List Chart) (table : Table) (references : List (List (List Reference))) → AreGathered charts table references → map (λ (c : ChartEntry). c.name) table ≡ map (λ (c : Chart). c.name) charts
gathered_names [] _ _ no_chart = refl
gathered_names (c ∷ charts) _ _ (chart_and {table = table} {others = references} is others) = ap (λ (l : List (List ℕ)). c.name ∷ l) (gathered_names charts table references others)

viewed_names : (entries : List rust_chart.ChartEntry) → map (λ (c : ChartEntry). c.name) (table_view entries) ≡ names_of entries
viewed_names [] = refl
viewed_names (e ∷ entries) = ap (λ (l : List (List ℕ)). e.name ∷ l) (viewed_names entries)

pub entries_differ : (charts : List Chart) (entries : List rust_chart.ChartEntry) (references : List (List (List Reference))) → AreGathered charts (table_view entries) references → AreDifferent (map (λ (c : Chart). c.name) charts) → AreDifferent (names_of entries)
entries_differ charts entries references are h = subst (λ (l : List (List ℕ)). AreDifferent l) (sym (gathered_names charts (table_view entries) references are) ∙ viewed_names entries) h

-- ---- the chart of a name

record IsFound (charts : List Chart) (name : List ℕ) (b : Body) : Type 0 where
  i : ℕ
  c : Chart
  references : List (List Reference)
  at : slice_get charts i ≡ Some c
  is : c.name ≡ name
  gathered : IsGatheredChart c b references

found : (charts : List Chart) (table : Table) (references : List (List (List Reference))) (name : List ℕ) (b : Body) → AreGathered charts table references → body_at table name ≡ Some b → IsFound charts name b
found [] _ _ name b no_chart is = cc
found (c ∷ charts) _ _ name b (chart_and {body = other} {table = table} {references = r} {others = references} g others) is = by (bytes_eq c.name name) refl (found charts table references name b others)
  where
    by : (t : Bool) → bytes_eq c.name name ≡ t → (body_at table name ≡ Some b → IsFound charts name b) → IsFound (c ∷ charts) name b
    by true q behind =
        let here : Some other ≡ Some b = rw q at is in
        let one : other ≡ b = cc in
        record { i = 0; c = c; references = r; at = refl; is = (bytes_eq-Decides c.name name).0 q; gathered = subst (λ (x : Body). IsGatheredChart c x r) one g }
    by false q behind =
        let there : body_at table name ≡ Some b = rw q at is in
        let h = behind there in
        record { i = suc h.i; c = h.c; references = h.references; at = h.at; is = h.is; gathered = h.gathered }

got_mapped : {A B : Type 0} (f : A → B) (xs : List A) (i : ℕ) (x : A) → slice_get xs i ≡ Some x → slice_get (map f xs) i ≡ Some (f x)
got_mapped f [] i x at = cc
got_mapped f (z ∷ zs) zero x at = let e : z ≡ x = cc in ap (λ (y : _). Some (f y)) e
got_mapped f (z ∷ zs) (suc i) x at = got_mapped f zs i x at

all_among : (P : List ℕ → Type 0) (ns : List (List ℕ)) → ((n : List ℕ) → IsAmong ns n → P n) → AreAll P ns
all_among P [] h = tt
all_among P (n ∷ ns) h = (h n (inl refl), all_among P ns (λ m among. h m (inr among)))

-- ---- how deep it goes

module _ (linked_names : NamesAreLinked) where
  names_linked : (c : Chart) (b : Body) (references : List (List Reference)) → IsGatheredChart c b references → (name : List ℕ) → IsAmong (level_names b) name → (link : Link) × IsAmong (chart_links c) link × (linked link ≡ name)
  names_linked c b references (a_basic held is g) name among = linked_names c held b references is g name among
  names_linked c _ _ (a_graph drawn is) name among = absurd among

  module _ (charts : List Chart) (ranks : List ℕ) (table : Table) (references : List (List (List Reference))) (ranked : AreRanks (map summary_of charts) ranks) (are : AreGathered charts table references) where
    -- the charts of the name have lower ranks
    abbrev IsBelow : ℕ → List ℕ → Type 0
    IsBelow k name = (i : ℕ) (c : Chart) → slice_get charts i ≡ Some c → c.name ≡ name → get_or ranks i 0 < k

    deep_names : (k : ℕ) (o : Option Body) (name : List ℕ) → body_at table name ≡ o → IsBelow k name → AreAll (GoesTo table k) (body_names o)
    deep_names zero None name is low = tt
    deep_names (suc k) None name is low = tt
    deep_names zero (Some b) name is low =
        let f = found charts table references name b are is in
        let none : get_or ranks f.i 0 < 0 = low f.i f.c f.at f.is in
        absurd (omega (arith, none))
    deep_names (suc k) (Some b) name is low =
        let f = found charts table references name b are is in
        let here : get_or ranks f.i 0 < suc k = low f.i f.c f.at f.is in
        all_among (GoesTo table (suc k)) (level_names b) (λ n among.
        let l = names_linked f.c b f.references f.gathered n among in
        deep_names k (body_at table n) n refl (λ j d at named.
        let less : get_or ranks j 0 < get_or ranks f.i 0 = ranked.falls f.i j (summary_of f.c) (summary_of d) l.0 (got_mapped summary_of charts f.i f.c f.at) (got_mapped summary_of charts j d at) l.1 (l.2 ∙ sym named) in
        omega (arith, less, here)))

    pub goes_to : (depth : ℕ) → ((i : ℕ) → get_or ranks i 0 + 1 < depth) → (name : List ℕ) → GoesTo table depth name
    goes_to zero low name = let none : get_or ranks 0 0 + 1 < 0 = low 0 in absurd (omega (arith, none))
    goes_to (suc k) low name = deep_names k (body_at table name) name refl (λ i c at is. let h : get_or ranks i 0 + 1 < suc k = low i in omega (arith, h))

    pub all_go : (depth : ℕ) → ((i : ℕ) → get_or ranks i 0 + 1 < depth) → (names : List (List ℕ)) → AreAll (GoesTo table depth) names
    all_go depth low names = all_among (GoesTo table depth) names (λ n among. goes_to depth low n)

    pub sizes_are : (depth : ℕ) (sizes : List ℕ) → ((i : ℕ) → get_or ranks i 0 + 1 < depth) → are_tied charts ≡ true → sizes ≡ table_joins (inner_to table depth) table references → AreJoinSizes charts sizes
    sizes_are zero sizes low some is = let none : get_or ranks 0 0 + 1 < 0 = low 0 in absurd (omega (arith, none))
    sizes_are (suc k) sizes low some is = tied table references k some are (all_go (suc k) low (map (λ (c : ChartEntry). c.name) table)) is
