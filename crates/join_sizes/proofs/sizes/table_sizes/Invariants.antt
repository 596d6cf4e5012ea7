use Rattle.std.proofs.Common.{◌≡◌, ◌++◌, drop}
use Rattle.gate_ends.specs.FoundEnds.{inner_to}
use Rattle.join_sizes.specs.JoinSizes.{table_joins}
use Rattle.level_gathering.specs.ReferenceViews.{charts_view}
use Rattle.msc_meaning.specs.Views.{table_view}
use Rattle.join_sizes.proofs.sizes.table_sizes.Given as goal

abbrev pub invariant-loop-number : goal.invariant-loop-number
invariant-loop-number l = l.sizes.items ++ table_joins (inner_to (table_view l.table.charts.now) l.table.depth) (table_view (drop l.number l.charts)) (charts_view (drop l.number l.references))
    ≡ table_joins (inner_to (table_view l.table.charts.now) l.table.depth) (table_view l.charts) (charts_view l.references)
