use Rattle.std.proofs.Common.{◌≡◌, ◌+◌, ◌≤◌, drop}
use Rattle.gate_ends.specs.FoundEnds.{inner_to}
use Rattle.gate_ends.specs.JoinCounts.{joins_count}
use Rattle.gate_ends.specs.LevelGates.{items_in}
use Rattle.gate_tables.specs.GateFacts.{most_counted}
use Rattle.join_sizes.specs.Counted.{capped}
use Rattle.msc_meaning.specs.Views.{body_view, table_view}
use Rattle.msc_tree.specs.Views.{expression_view}
use Rattle.join_sizes.proofs.counting.joins_count.Given as goal

abbrev pub invariant-loop-join : goal.invariant-loop-join
invariant-loop-join l = record {
  low : l.sum ≤ most_counted;
  all : capped (l.sum + joins_count (inner_to (table_view l.table.charts.now) l.table.depth) (items_in (body_view l.level.body.now)) l.reference.name (expression_view l.reference.expr) (drop l.join-index l.joins))
      ≡ capped (joins_count (inner_to (table_view l.table.charts.now) l.table.depth) (items_in (body_view l.level.body.now)) l.reference.name (expression_view l.reference.expr) l.joins);
}
