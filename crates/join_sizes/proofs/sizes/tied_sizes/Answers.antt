use Rattle.std.proofs.Common.{◌≡◌, List, ap₂, map, subst, sym, ◌∙◌}
use Rattle.std.proofs.lemmas.Result.{IfOk-weaker}
use Rattle.gate_ends.specs.FoundEnds.{AreAll, GoesTo, inner_to}
use Rattle.join_sizes.specs.JoinSizes.{AreJoinSizes, table_joins}
use Rattle.join_sizes.specs.Named.{names_of}
use Rattle.level_gathering.specs.ReferenceViews.{charts_view}
use Rattle.msc_base.specs.Lists.{AreDifferent}
use Rattle.msc_meaning.specs.Views.{table_view}
use Rattle.msc_meaning.specs.declared.body.ChartEntry.{ChartEntry}
use Rattle.msc_tree.specs.Views.{chart_view}
use Rattle.join_sizes.proofs.RankedCharts.{all_go, entries_differ, sizes_are}
use Rattle.join_sizes.proofs.sizes.tied_sizes.Goals as goal

pub entry_names-requires : goal.entry_names-requires
entry_names-requires c =
    subst (λ (l : List ChartEntry). AreDifferent (names_of l)) (sym c.as_slice-entries.ensures.value)
    (entries_differ (map chart_view c.args.charts.now) c.in_ok-gathered.gathered.entries.items (charts_view c.in_ok-gathered.gathered.references.items) c.in_ok-gathered.ensures c.requires.different)

pub gate_tables-requires-clause-deep : goal.gate_tables-requires-clause-deep
gate_tables-requires-clause-deep c =
    let charts = map chart_view c.args.charts.now in
    let gathered = c.in_ok-gathered.gathered in
    subst (λ (l : List ChartEntry). AreAll (GoesTo (table_view l) c.in_ok-depth.depth) c.in_ok-names.names) (sym c.as_slice-entries.ensures.value)
    (all_go c.requires.linked charts c.args.ranks.now (table_view gathered.entries.items) (charts_view gathered.references.items) c.requires.ranks c.in_ok-gathered.ensures c.in_ok-depth.depth c.in_ok-depth.ensures c.in_ok-names.names)

pub returns : goal.returns
returns c =
    let charts = map chart_view c.args.charts.now in
    let gathered = c.in_ok-gathered.gathered in
    let entries = c.as_slice-entries.result.now in
    let lists = c.as_slice-2.result.now in
    let depth = c.in_ok-depth.depth in
    let same = ap₂ (λ (es : List ChartEntry) (rs : _). table_joins (inner_to (table_view es) depth) (table_view es) (charts_view rs)) c.as_slice-entries.ensures.value c.as_slice-2.ensures.value in
    IfOk-weaker c.table_sizes.result (λ sizes. sizes.items ≡ table_joins (inner_to (table_view entries) depth) (table_view entries) (charts_view lists)) (λ sizes. AreJoinSizes charts sizes.items)
    (λ sizes is. sizes_are c.requires.linked charts c.args.ranks.now (table_view gathered.entries.items) (charts_view gathered.references.items) c.requires.ranks c.in_ok-gathered.ensures depth sizes.items c.in_ok-depth.ensures c.requires.tied (is ∙ same))
    c.table_sizes.ensures
