use Rattle.std.proofs.Common.{◌≡◌, ◌++◌, drop, map}
use Rattle.msc_instances.specs.PartViews.{column_view}
use Rattle.msc_instances.specs.Parts.{items_parts}
use Rattle.msc_tree.specs.Statements.{items}
use Rattle.msc_tree.specs.Views.{item_view}
use Rattle.msc_instances.proofs.levels.item_parts.Given as goal

abbrev pub invariant-loop-held : goal.invariant-loop-held
invariant-loop-held l =
    l.level ++ items_parts (column_view l.setting) (items (map item_view (drop l.held-index l.list)))
    ≡ l.initial.level ++ items_parts (column_view l.setting) (items (map item_view l.list))
