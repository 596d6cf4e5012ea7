use Rattle.std.proofs.Common.{◌≡◌, ◌++◌, drop, map}
use Rattle.chart_text.specs.PassageViews.{side_view}
use Rattle.creation_rules.specs.Stopping.{items_behind, items_stops}
use Rattle.msc_tree.specs.Statements.{items}
use Rattle.msc_tree.specs.Views.{item_view}
use Rattle.creation_rules.proofs.stopping.items.Given as goal

abbrev pub invariant-loop-held : goal.invariant-loop-held
invariant-loop-held l = record {
  places : l.places ++ items_behind l.stopped (side_view l.side) (items (map item_view (drop l.held-index l.list)))
      ≡ l.initial.places ++ items_behind l.initial.stopped (side_view l.side) (items (map item_view l.list));
  stopped : items_stops l.stopped (side_view l.side) (items (map item_view (drop l.held-index l.list)))
      ≡ items_stops l.initial.stopped (side_view l.side) (items (map item_view l.list));
}
