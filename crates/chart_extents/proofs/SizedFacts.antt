-- Sized charts, one after another.
use Rattle.std.proofs.Common.{◌≡◌, ◌<◌, ◌+◌, ℕ, zero, suc, List, [], ◌∷◌, ◌++◌, append_assoc, drop, get_or, length, map, slice_index_or, ap, sym, subst, ◌∙◌, arith}
use Rattle.std.proofs.lemmas.List.{length-map, map-append}
use Rattle.list_facts.proofs.Joining.{same_head, same_tail}
use Rattle.list_facts.proofs.Reading.{drop_read}
use Rattle.chart_extents.specs.Extents.{Sized, sized_from, sized_of}
use Rattle.chart_extents.specs.ExtentViews.{sized_view}
use Rattle.chart_extents.specs.declared.sized.SizedChart.{SizedChart}
use Rattle.chart_links.specs.Summaries.{summary_of}
use Rattle.chart_links.specs.SummaryViews.{summary_view}
use Rattle.chart_links.specs.declared.summary.ChartSummary.{ChartSummary}
use Rattle.msc_tree.specs.Views.{chart_view}
use Rattle.msc_tree.specs.declared.chart.RawChart.{RawChart}

abbrev AreOf : List RawChart → List ChartSummary → Type 0
AreOf charts summaries = map summary_view summaries ≡ map summary_of (map chart_view charts)

-- the summary at a chart's number is the chart's
pub own_summary : (charts : List RawChart) (summaries : List ChartSummary) (i : ℕ) (chart : RawChart) (summary d : ChartSummary) → AreOf charts summaries → i < length charts → chart ≡ get_or charts i chart → summary ≡ get_or summaries i d
    → summary_view summary ≡ summary_of (chart_view chart)
own_summary [] ss i chart summary d are low is own = absurd (omega (arith, low))
own_summary (c ∷ cs) [] i chart summary d are low is own = cc
own_summary (c ∷ cs) (s ∷ ss) zero chart summary d are low is own =
    ap summary_view own ∙ same_head (summary_view s) (summary_of (chart_view c)) (map summary_view ss) (map summary_of (map chart_view cs)) are ∙ ap (λ (x : RawChart). summary_of (chart_view x)) (sym is)
own_summary (c ∷ cs) (s ∷ ss) (suc i) chart summary d are low is own =
    own_summary cs ss i chart summary d (same_tail (summary_view s) (summary_of (chart_view c)) (map summary_view ss) (map summary_of (map chart_view cs)) are) (omega (arith, low)) is own

-- there is one
pub many_summaries : (charts : List RawChart) (summaries : List ChartSummary) → AreOf charts summaries → length summaries ≡ length charts
many_summaries charts summaries are =
    sym (length-map summaries summary_view) ∙ ap length are ∙ length-map (map chart_view charts) summary_of ∙ length-map charts chart_view

-- one chart more
pub sized_more : (charts : List RawChart) (joined : List ℕ) (i : ℕ) (chart : RawChart) (made new : List SizedChart) (one : SizedChart) (all : List Sized) → i < length charts → chart ≡ get_or charts i chart
    → new ≡ made ++ one ∷ [] → sized_view one ≡ sized_of (chart_view chart) (slice_index_or joined i 0)
    → map sized_view made ++ sized_from joined i (map chart_view (drop i charts)) ≡ all → map sized_view new ++ sized_from joined (i + 1) (map chart_view (drop (i + 1) charts)) ≡ all
sized_more charts joined i chart made new one all low is pushed view e =
    let rest = sized_from joined (i + 1) (map chart_view (drop (i + 1) charts)) in
    let next : suc i ≡ i + 1 = omega arith in
    let now : map sized_view made ++ sized_of (chart_view chart) (slice_index_or joined i 0) ∷ rest ≡ all =
    subst (λ (k : ℕ). map sized_view made ++ sized_of (chart_view chart) (slice_index_or joined i 0) ∷ sized_from joined k (map chart_view (drop (i + 1) charts)) ≡ all) next
    (subst (λ (l : List RawChart). map sized_view made ++ sized_from joined i (map chart_view l) ≡ all) (drop_read charts i chart low is) e) in
    ap (λ (l : List SizedChart). map sized_view l ++ rest) pushed ∙ ap (λ (l : List Sized). l ++ rest) (map-append sized_view made (one ∷ []))
    ∙ append_assoc (map sized_view made) (sized_view one ∷ []) rest ∙ ap (λ (s : Sized). map sized_view made ++ s ∷ rest) view ∙ now
