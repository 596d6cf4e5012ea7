use Rattle.std.proofs.Common.{◌≡◌, ◌+◌, ◌≤◌, drop}
use Rattle.gate_ends.specs.FoundEnds.{inner_to}
use Rattle.gate_ends.specs.JoinCounts.{references_count}
use Rattle.gate_ends.specs.LevelGates.{items_in}
use Rattle.gate_tables.specs.GateFacts.{most_counted}
use Rattle.join_sizes.specs.Counted.{capped}
use Rattle.level_gathering.specs.ReferenceViews.{references_view}
use Rattle.msc_meaning.specs.Views.{body_view, table_view}
use Rattle.join_sizes.proofs.counting.known_count.Given as goal

abbrev pub invariant-loop-reference : goal.invariant-loop-reference
invariant-loop-reference l = record {
  low : l.sum ≤ most_counted;
  all : capped (l.sum + references_count (inner_to (table_view l.table.charts.now) l.table.depth) (items_in (body_view l.level.body.now)) (references_view (drop l.reference-index l.references)))
      ≡ capped (references_count (inner_to (table_view l.table.charts.now) l.table.depth) (items_in (body_view l.level.body.now)) (references_view l.references));
}
