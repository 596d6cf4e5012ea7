use Rattle.std.proofs.Common.{rules, arith, ◌≡◌, ◌∙◌, ◌-◌, ◌+◌, ◌<◌, ◌∷◌, ℕ, List, drop, fold, sym, ap}
use Rattle.std.proofs.lemmas.Bool.Decides.{nat_tests}
use Rattle.std.specs.Borrow.{Bor}
use Rattle.gate_ends.specs.NameViews.{names_view}
use Rattle.list_facts.proofs.Reading.{drop_read}
use Rattle.msc_base.specs.NameTables.{with_name}
use Rattle.msc_meaning.specs.Tables.{chart_at}
use Rattle.msc_meaning.specs.Views.{content_view, table_view}
use Rattle.msc_meaning.specs.declared.body.EntryContent.{EntryContent}
use Rattle.msc_tree.specs.Views.{graph_view}
use Rattle.woven_laws.specs.GraphNames.{graph_names}
use Rattle.chart_lists.specs.ListedNames.{listed_view}
use Rattle.chart_lists.specs.Listing.{content_listed, entry_listed, instances_behind, listed_to}
use Rattle.chart_lists.proofs.ListedLaws.{gathered, none_listed, one_listed, with_end}
use Rattle.chart_lists.proofs.drawn_instances.+listed.Goals as goal

pub add_chart-returns-in_ok-names-in-Graph-clause-made : goal.add_chart-returns-in_ok-names-in-Graph-clause-made
add_chart-returns-in_ok-names-in-Graph-clause-made t c =
    let of = listed_to (table_view c.args.table.charts.now) c.args.depth in
    let old = listed_view c.args.list.now in
    let names = ap names_view c.as_slice.ensures.value ∙ c.in_ok-names-in-Graph.ensures in
    with_end c.add_charts.result _ _ _ c.add_charts.ensures.made
    (ap (instances_behind of old) names ∙ gathered of old (graph_names (graph_view c.in-Graph.graph)) ∙ ap (λ (x : EntryContent). fold with_name old (content_listed of (content_view x))) (sym c.in-Graph.is))

pub add_charts-returns-then-depth-eq0-clause-made : goal.add_charts-returns-then-depth-eq0-clause-made
add_charts-returns-then-depth-eq0-clause-made t c =
    let e : c.args.depth ≡ 0 = grind (arith, nat_tests) in
    none_listed (table_view c.args.table.charts.now) c.args.depth (listed_view c.args.list.now) (names_view c.args.names.now) e

pub add_charts-loop-name-preserved : goal.add_charts-loop-name-preserved
add_charts-loop-name-preserved t c =
    let table = table_view c.args.table.charts.now in
    let of = listed_to table c.args.depth in
    let before = listed_view c.loop-name.list in
    let name : List ℕ = c.name-item.result.now in
    let rest : List (List ℕ) = names_view (drop (c.loop-name.name-index + 1) c.args.names.now) in
    let low : 0 < c.args.depth = grind (arith, nat_tests) in
    let here : names_view (drop c.loop-name.name-index c.args.names.now) ≡ name ∷ rest = ap names_view (drop_read c.args.names.now c.loop-name.name-index _ c.loop-name-test.true c.name-item.is) in
    let more : listed_view c.add_named.new.list ≡ fold with_name before (entry_listed (listed_to table (c.args.depth - 1)) (chart_at table name)) = search rules in
    let own : listed_view c.add_named.new.list ≡ fold with_name before (of name) = more ∙ ap (fold with_name before) (one_listed table c.args.depth name low) in
    record {
      made = ap (λ (l : List (List ℕ)). instances_behind of l rest) own ∙ sym (ap (instances_behind of before) here) ∙ c.loop-name.invariant.made;
      seen = search rules;
    }
