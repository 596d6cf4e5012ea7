-- Summaries of charts, one after another.
use Rattle.std.proofs.Common.{◌≡◌, ◌<◌, ◌+◌, ℕ, zero, suc, List, [], ◌∷◌, ◌++◌, append_assoc, drop, get_or, length, map, refl, ap, sym, subst, ◌∙◌, arith}
use Rattle.std.proofs.lemmas.List.{length-map, map-append}
use Rattle.list_facts.proofs.Reading.{drop_read}
use Rattle.chart_links.specs.Summaries.{Summary, summary_of}
use Rattle.chart_links.specs.SummaryViews.{summary_view}
use Rattle.chart_links.specs.declared.summary.ChartSummary.{ChartSummary}
use Rattle.msc_instances.specs.Instances.{instances}
use Rattle.msc_tree.specs.Views.{chart_view}
use Rattle.msc_tree.specs.declared.chart.RawChart.{RawChart}

-- the list at a chart's number has its instances
pub own_names : (charts : List RawChart) (lists : List (List (List ℕ))) (i : ℕ) (chart : RawChart) (names d : List (List ℕ)) → lists ≡ map instances (map chart_view charts) → i < length charts → chart ≡ get_or charts i chart → names ≡ get_or lists i d
    → names ≡ instances (chart_view chart)
own_names charts lists i chart names d are low is own = by charts i low is (own ∙ ap (λ (l : List (List (List ℕ))). get_or l i d) are)
  where
    by : (cs : List RawChart) (k : ℕ) → k < length cs → chart ≡ get_or cs k chart → names ≡ get_or (map instances (map chart_view cs)) k d → names ≡ instances (chart_view chart)
    by [] k low is own = absurd (omega (arith, low))
    by (c ∷ cs) zero low is own = own ∙ ap (λ (x : RawChart). instances (chart_view x)) (sym is)
    by (c ∷ cs) (suc k) low is own = by cs k (omega (arith, low)) is own

-- there is one
pub many_names : (charts : List RawChart) (lists : List (List (List ℕ))) → lists ≡ map instances (map chart_view charts) → length lists ≡ length charts
many_names charts lists are = ap length are ∙ length-map (map chart_view charts) instances ∙ length-map charts chart_view

-- one summary more
pub summary_more : (charts : List RawChart) (i : ℕ) (chart : RawChart) (made new : List ChartSummary) (one : ChartSummary) (all : List Summary) → i < length charts → chart ≡ get_or charts i chart → new ≡ made ++ one ∷ [] → summary_view one ≡ summary_of (chart_view chart)
    → map summary_view made ++ map summary_of (map chart_view (drop i charts)) ≡ all → map summary_view new ++ map summary_of (map chart_view (drop (i + 1) charts)) ≡ all
summary_more charts i chart made new one all low is pushed own e =
    let rest = map summary_of (map chart_view (drop (i + 1) charts)) in
    let now : map summary_view made ++ summary_of (chart_view chart) ∷ rest ≡ all = subst (λ (l : List RawChart). map summary_view made ++ map summary_of (map chart_view l) ≡ all) (drop_read charts i chart low is) e in
    ap (λ (l : List ChartSummary). map summary_view l ++ rest) pushed ∙ ap (λ (l : List Summary). l ++ rest) (map-append summary_view made (one ∷ []))
    ∙ append_assoc (map summary_view made) (summary_view one ∷ []) rest ∙ ap (λ (s : Summary). map summary_view made ++ s ∷ rest) own ∙ now
