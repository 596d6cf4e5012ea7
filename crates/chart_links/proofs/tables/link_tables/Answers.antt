use Rattle.std.proofs.Common.{◌≡◌, map, subst, ◌∙◌, List, ℕ}
use Rattle.chart_links.specs.Rows.{AreGathered}
use Rattle.chart_links.specs.SummaryViews.{summary_view}
use Rattle.chart_links.proofs.TableFacts.{tables_are}
use Rattle.chart_links.proofs.tables.link_tables.Goals as goal

pub returns : goal.returns
returns c =
    let charts = map summary_view c.args.charts.now in
    let reach = c.close.new.rows.items in
    let own = c.in_ok-own.own.items in
    let expanded = c.in_ok-expanded.expanded.items in
    let over : c.as_slice.result.now ≡ reach = c.as_slice.ensures.value in
    let sets : c.as_slice-2.result.now ≡ own = c.as_slice-2.ensures.value in
    let half : AreGathered reach c.as_slice-2.result.now expanded = subst (λ (l : List (List ℕ)). AreGathered l c.as_slice-2.result.now expanded) over c.in_ok-expanded.ensures in
    let gathered : AreGathered reach own expanded = subst (λ (l : List (List ℕ)). AreGathered reach l expanded) sets half in
    tables_are charts c.in_ok-names.names c.in_ok-known.known c.in_ok-reach.reach.items reach own expanded c.in_ok-names.ensures c.in_ok-known.ensures c.in_ok-reach.ensures.edges c.in_ok-close.ensures c.in_ok-own.ensures.own gathered
    (c.in_ok-close.ensures.len ∙ c.in_ok-reach.ensures.len)
