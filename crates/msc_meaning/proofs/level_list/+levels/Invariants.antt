use Rattle.std.proofs.Common.{◌≡◌, ◌++◌, drop}
use Rattle.msc_meaning.specs.BodyLevels.{items_levels, operands_levels}
use Rattle.msc_meaning.specs.ItemViews.{bodies_view, items_view}
use Rattle.msc_meaning.specs.LevelViews.{levels_view}
use Rattle.msc_meaning.proofs.level_list.+levels.Given as goal

abbrev pub invariant-add_items-loop-item : goal.invariant-add_items-loop-item
invariant-add_items-loop-item l = levels_view l.levels.items ++ items_levels (items_view (drop l.item-index l.items)) ≡ levels_view l.initial.levels.items ++ items_levels (items_view l.items)

abbrev pub invariant-add_operands-loop-operand : goal.invariant-add_operands-loop-operand
invariant-add_operands-loop-operand l =
    levels_view l.levels.items ++ operands_levels l.form (bodies_view (drop l.operand-index l.operands)) ≡ levels_view l.initial.levels.items ++ operands_levels l.form (bodies_view l.operands)
