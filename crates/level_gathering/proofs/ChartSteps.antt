-- Steps of the walk that gathers charts.
use Rattle.std.proofs.Common.{◌≡◌, ◌<◌, ◌+◌, ℕ, zero, suc, List, [], ◌∷◌, ◌++◌, Some, get_or, length, map, slice_get, take, sym, subst, ap, ◌∙◌}
use Rattle.std.proofs.lemmas.List.{map-append, take_more}
use Rattle.chart_text.specs.WellFormed.{AreAllWellFormed, IsWellFormed}
use Rattle.msc_tree.specs.Charts.{Chart}
use Rattle.msc_tree.specs.Statements.{Reference}
use Rattle.msc_tree.specs.Views.{chart_view}
use Rattle.msc_tree.specs.declared.chart.RawChart.{RawChart}
use Rattle.msc_instances.specs.Instances.{instances}
use Rattle.msc_meaning.specs.Bodies.{Body}
use Rattle.msc_meaning.specs.Tables.{Table}
use Rattle.level_pieces.proofs.Walks.{map_at}
use Rattle.level_gathering.specs.GatheredCharts.{AreGathered, IsGatheredChart, chart_and, gathered_entry, no_chart}

pub charts_on : {charts : List Chart} {table : Table} {references : List (List (List Reference))} {chart : Chart} {body : Body} {own : List (List Reference)} → AreGathered charts table references → IsGatheredChart chart body own
    → AreGathered (charts ++ chart ∷ []) (table ++ gathered_entry chart.name body ∷ []) (references ++ own ∷ [])
charts_on no_chart is = chart_and is no_chart
charts_on (chart_and one rest) is = chart_and one (charts_on rest is)

pub formed_at : (charts : List RawChart) (k : ℕ) (c : RawChart) → AreAllWellFormed (map chart_view charts) → slice_get charts k ≡ Some c → IsWellFormed (chart_view c)
formed_at [] k c h at = cc
formed_at (d ∷ charts) zero c h at = let same : d ≡ c = cc in subst (λ (x : RawChart). IsWellFormed (chart_view x)) same h.0
formed_at (d ∷ charts) (suc k) c h at = formed_at charts k c h.1 at

-- the instances of the chart of that number
pub instances_at : (charts : List RawChart) (lists : List (List (List ℕ))) (k : ℕ) (c : RawChart) (names : List (List ℕ)) → lists ≡ map instances (map chart_view charts) → slice_get charts k ≡ Some c → slice_get lists k ≡ Some names
    → names ≡ instances (chart_view c)
instances_at charts lists k c names are at own =
    let there : slice_get (map instances (map chart_view charts)) k ≡ Some (instances (chart_view c)) = map_at instances (map chart_view charts) k (chart_view c) (map_at chart_view charts k c at) in
    let both : Some names ≡ Some (instances (chart_view c)) = sym own ∙ ap (λ (l : List (List (List ℕ))). slice_get l k) are ∙ there in
    cc

-- one chart more
pub charts_more : (charts : List RawChart) (k : ℕ) (c : RawChart) (table longer : Table) (references others : List (List (List Reference))) (body : Body) (own : List (List Reference)) → k < length charts → c ≡ get_or charts k c
    → longer ≡ table ++ gathered_entry c.name body ∷ [] → others ≡ references ++ own ∷ [] → AreGathered (map chart_view (take k charts)) table references → IsGatheredChart (chart_view c) body own
    → AreGathered (map chart_view (take (k + 1) charts)) longer others
charts_more charts k c table longer references others body own low is entries lists h one =
    let more : map chart_view (take (k + 1) charts) ≡ map chart_view (take k charts) ++ chart_view c ∷ [] =
    ap (map chart_view) (take_more charts k c low ∙ ap (λ (x : RawChart). take k charts ++ x ∷ []) (sym is)) ∙ map-append chart_view (take k charts) (c ∷ []) in
    subst (λ (cs : List Chart). AreGathered cs longer others) (sym more)
    (subst (λ (t : Table). AreGathered (map chart_view (take k charts) ++ chart_view c ∷ []) t others) (sym entries)
    (subst (λ (l : List (List (List Reference))). AreGathered (map chart_view (take k charts) ++ chart_view c ∷ []) (table ++ gathered_entry c.name body ∷ []) l) (sym lists) (charts_on h one)))
