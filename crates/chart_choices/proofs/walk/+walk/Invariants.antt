use Rattle.std.proofs.Common.{drop}
use Rattle.expansion_tree.specs.Views.{expansions_view}
use Rattle.msc_meaning.specs.ItemViews.{bodies_view, items_view}
use Rattle.choice_parts.specs.ChoiceParts.{items_parts, operands_parts}
use Rattle.chart_choices.proofs.Steps.{IsLeft}
use Rattle.chart_choices.proofs.walk.+walk.Given as goal

abbrev pub invariant-add_items-loop-item : goal.invariant-add_items-loop-item
invariant-add_items-loop-item l =
    IsLeft l.initial.tables (items_parts (items_view l.items) (expansions_view l.row) l.pairs) l.initial.found.items l.tables (items_parts (items_view (drop l.item-index l.items)) (expansions_view l.rest) l.pairs) l.found.items

abbrev pub invariant-add_operands-loop-body : goal.invariant-add_operands-loop-body
invariant-add_operands-loop-body l =
    IsLeft l.initial.tables (operands_parts (bodies_view l.bodies) (expansions_view l.parts)) l.initial.found.items l.tables (operands_parts (bodies_view (drop l.body-index l.bodies)) (expansions_view l.rest)) l.found.items
