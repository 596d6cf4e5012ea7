use Rattle.std.proofs.Common.{◌≡◌, ◌++◌, drop}
use Rattle.msc_meaning.specs.ItemViews.{bodies_view, items_view}
use Rattle.gate_ends.specs.FoundEnds.{items_names, operands_names}
use Rattle.gate_ends.specs.NameViews.{names_view}
use Rattle.gate_ends.proofs.names.+level_names.Given as goal

abbrev pub invariant-add_items-loop-item : goal.invariant-add_items-loop-item
invariant-add_items-loop-item l = names_view l.names.items ++ items_names (items_view (drop l.item-index l.items)) ≡ names_view l.initial.names.items ++ items_names (items_view l.items)

abbrev pub invariant-add_operands-loop-operand : goal.invariant-add_operands-loop-operand
invariant-add_operands-loop-operand l =
    names_view l.names.items ++ operands_names (bodies_view (drop l.operand-index l.operands)) ≡ names_view l.initial.names.items ++ operands_names (bodies_view l.operands)
