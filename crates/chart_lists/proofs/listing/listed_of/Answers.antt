use Rattle.std.proofs.Common.{◌≡◌, ◌∙◌, ℕ, List, None, map, sym, subst, ap, refl}
use Rattle.gate_ends.specs.NameViews.{names_view}
use Rattle.msc_meaning.specs.Views.{content_view, entry_view, table_view}
use Rattle.msc_tree.specs.Views.{graph_view}
use Rattle.chart_lists.specs.ListedNames.{listed_view}
use Rattle.chart_lists.specs.Listing.{as_listed, listed_of}
use Rattle.chart_lists.proofs.ListedLaws.{drawn_listed, if_end, listed_in_table}
use Rattle.chart_lists.proofs.listing.listed_of.Goals as goal

pub returns-in_ok-list-in-Graph : goal.returns-in_ok-list-in-Graph
returns-in_ok-list-in-Graph c =
    let names = listed_view c.in_ok-list-in-Graph.list in
    let made = listed_in_table c.args.table.charts.now c.args.table.charts.now names (graph_view c.in-Graph.graph) refl c.in_ok-list-in-Graph.ensures in
    let listed : map (λ (n : List ℕ). as_listed n None) names ≡ listed_of (table_view c.args.table.charts.now) (entry_view c.args.chart.now) =
    drawn_listed (table_view c.args.table.charts.now) (entry_view c.args.chart.now) (graph_view c.in-Graph.graph) names (ap content_view c.in-Graph.is) made in
    if_end c.plain_instances.result _ _ c.plain_instances.ensures (ap (map (λ (n : List ℕ). as_listed n None)) (ap names_view c.as_slice-in-Graph.ensures.value) ∙ listed)
