use Rattle.std.proofs.Common.{◌≡◌, ◌++◌, List, ℕ, [], drop, map, sym, ap, ◌∙◌, arith}
use Rattle.std.proofs.lemmas.List.{append-nil}
use Rattle.list_facts.proofs.Reading.{drop_end}
use Rattle.chart_links.specs.Ranks.{rank_of}
use Rattle.chart_links.specs.Summaries.{Summary}
use Rattle.chart_links.specs.SummaryViews.{summary_view}
use Rattle.chart_links.specs.declared.summary.ChartSummary.{ChartSummary}
use Rattle.chart_links.proofs.RankFacts.{ranks_are}
use Rattle.chart_links.proofs.ranks.chart_ranks.Goals as goal

pub returns : goal.returns
returns c =
    let t = c.args.tables.now in
    let list = c.args.charts.now in
    let rank : Summary → ℕ = λ x. rank_of t.names t.reach.items x.name in
    let none : drop c.loop-chart.chart-index list ≡ [] = drop_end list c.loop-chart.chart-index (λ lt. omega (arith, lt, c.loop-chart-test.false)) in
    let all : c.loop-chart.ranks.items ≡ map rank (map summary_view list) =
    sym (append-nil c.loop-chart.ranks.items) ∙ ap (λ (l : List ChartSummary). c.loop-chart.ranks.items ++ map rank (map summary_view l)) (sym none) ∙ c.loop-chart.invariant in
    ranks_are (map summary_view list) t.names t.known t.reach.items t.expanded.items c.requires.tables c.requires.acyclic c.loop-chart.ranks.items all
