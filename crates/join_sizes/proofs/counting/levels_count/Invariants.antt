use Rattle.std.proofs.Common.{◌≡◌, ◌+◌, ◌≤◌, drop}
use Rattle.gate_ends.specs.FoundEnds.{inner_to}
use Rattle.gate_ends.specs.JoinCounts.{levels_count}
use Rattle.gate_tables.specs.GateFacts.{most_counted}
use Rattle.join_sizes.specs.Counted.{capped}
use Rattle.level_gathering.specs.ReferenceViews.{lists_view}
use Rattle.msc_meaning.specs.LevelViews.{levels_view}
use Rattle.msc_meaning.specs.Views.{table_view}
use Rattle.join_sizes.proofs.counting.levels_count.Given as goal

abbrev pub invariant-loop-number : goal.invariant-loop-number
invariant-loop-number l = record {
  low : l.sum ≤ most_counted;
  all : capped (l.sum + levels_count (inner_to (table_view l.table.charts.now) l.table.depth) (levels_view (drop l.number l.levels)) (lists_view (drop l.number l.references)))
      ≡ capped (levels_count (inner_to (table_view l.table.charts.now) l.table.depth) (levels_view l.levels) (lists_view l.references));
}
