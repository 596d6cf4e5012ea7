use Rattle.std.proofs.Common.{◌+◌, ◌*◌, map, take}
use Rattle.msc_tree.specs.Expressions.{expressions}
use Rattle.msc_tree.specs.Views.{expression_view, graph_view, node_view}
use Rattle.std.specs.List.{flat_map}
use Rattle.msc_meaning.specs.Bodies.{items}
use Rattle.msc_meaning.specs.ItemViews.{bodies_view, inline_view, items_view}
use Rattle.msc_meaning.specs.Views.{body_view, item_view, reference_view, table_view}
use Rattle.level_surroundings.specs.GateWays.{ways_view}
use Rattle.level_surroundings.specs.Givens.{around_view}
use Rattle.expanded_charts.specs.Making.{AreMade, expressions_parts, frames_parts, frames_view, items_parts, lines_parts, lines_view, operands_parts}
use Rattle.expanded_charts.specs.RefinedMaking.{beside_parts}
use Rattle.expanded_charts.specs.LeftItems.{left_item}
use Rattle.level_surroundings.specs.RefiningViews.{refinings_view}
use Rattle.expanded_charts.proofs.Measures.{body_size, expression_size, expressions_size, frames_size, graph_size, item_size, items_size, lines_size, measure, node_size, operands_size, table_size}
use Rattle.expanded_charts.proofs.charts.+charts.Given as goal

abbrev pub decreases-chart_of : goal.decreases-chart_of
decreases-chart_of l = measure (table_view l.table.charts.now) l.depth 0

abbrev pub decreases-level_of : goal.decreases-level_of
decreases-level_of l = measure (table_view l.table.charts.now) l.depth (4 * body_size (body_view l.body.now) + 1)

abbrev pub decreases-tied_of : goal.decreases-tied_of
decreases-tied_of l = measure (table_view l.table.charts.now) l.depth (4 * body_size (body_view l.body.now))

abbrev pub decreases-woven_of : goal.decreases-woven_of
decreases-woven_of l = measure (table_view l.table.charts.now) l.depth (4 * table_size (table_view l.table.charts.now) + 4 * body_size (body_view l.body.now) + 9)

abbrev pub decreases-refined_of : goal.decreases-refined_of
decreases-refined_of l = measure (table_view l.table.charts.now) l.depth (4 * table_size (table_view l.table.charts.now) + 4 * body_size (body_view l.body.now) + 8)

abbrev pub decreases-beside_of : goal.decreases-beside_of
decreases-beside_of l = measure (table_view l.table.charts.now) l.depth (4 * table_size (table_view l.table.charts.now) + 4 * items_size (items_view l.items.now) + 7)

abbrev pub decreases-refining_of : goal.decreases-refining_of
decreases-refining_of l = measure (table_view l.table.charts.now) l.depth (4 * body_size (body_view l.refining.now.body.now) + 2)

abbrev pub decreases-left_of : goal.decreases-left_of
decreases-left_of l = measure (table_view l.table.charts.now) l.depth (4 * items_size (items_view l.items.now) + 3)

abbrev pub decreases-add_left : goal.decreases-add_left
decreases-add_left l = measure (table_view l.table.charts.now) l.depth (4 * item_size (item_view l.item.now) + 2)

abbrev pub decreases-items_of : goal.decreases-items_of
decreases-items_of l = measure (table_view l.table.charts.now) l.depth (4 * items_size (items_view l.items.now) + 2)

abbrev pub decreases-item_of : goal.decreases-item_of
decreases-item_of l = measure (table_view l.table.charts.now) l.depth (4 * item_size (item_view l.item.now) + 1)

abbrev pub decreases-inline_of : goal.decreases-inline_of
decreases-inline_of l = measure (table_view l.table.charts.now) l.depth (4 * item_size (inline_view l.inline.now))

abbrev pub decreases-reference_of : goal.decreases-reference_of
decreases-reference_of l = measure (table_view l.table.charts.now) l.depth (4 * item_size (reference_view l.reference.now))

abbrev pub decreases-operands_of : goal.decreases-operands_of
decreases-operands_of l = measure (table_view l.table.charts.now) l.depth (4 * operands_size (bodies_view l.operands.now) + 2)

abbrev pub decreases-expression_of : goal.decreases-expression_of
decreases-expression_of l = measure (table_view l.table.charts.now) l.depth (4 * expression_size (expression_view l.expression.now) + 1)

abbrev pub decreases-expressions_of : goal.decreases-expressions_of
decreases-expressions_of l = measure (table_view l.table.charts.now) l.depth (4 * expressions_size (expressions (map expression_view l.operands.now)) + 2)

abbrev pub decreases-graph_of : goal.decreases-graph_of
decreases-graph_of l = measure (table_view l.table.charts.now) l.depth (4 * graph_size (graph_view l.graph.now))

abbrev pub decreases-lines_of : goal.decreases-lines_of
decreases-lines_of l = measure (table_view l.table.charts.now) l.depth (4 * lines_size (lines_view l.lines.now) + 2)

abbrev pub decreases-node_of : goal.decreases-node_of
decreases-node_of l = measure (table_view l.table.charts.now) l.depth (4 * node_size (node_view l.node.now) + 1)

abbrev pub decreases-frames_of : goal.decreases-frames_of
decreases-frames_of l = measure (table_view l.table.charts.now) l.depth (4 * frames_size (frames_view l.frames.now) + 2)

abbrev pub invariant-items_of-loop-item : goal.invariant-items_of-loop-item
invariant-items_of-loop-item l = AreMade l.initial.numbering l.numbering (items_parts (table_view l.table.charts.now) l.depth l.level.called.now (around_view l.level.given) l.next (items_view (take l.item-index l.items))) l.parts

abbrev pub invariant-operands_of-loop-operand : goal.invariant-operands_of-loop-operand
invariant-operands_of-loop-operand l = AreMade l.initial.numbering l.numbering (operands_parts (table_view l.table.charts.now) l.depth (around_view l.given) l.next (bodies_view (take l.operand-index l.operands))) l.parts

abbrev pub invariant-expressions_of-loop-expression : goal.invariant-expressions_of-loop-expression
invariant-expressions_of-loop-expression l = AreMade l.initial.numbering l.numbering (expressions_parts (table_view l.table.charts.now) l.depth (ways_view l.ways) l.next (expressions (map expression_view (take l.expression-index l.operands)))) l.parts

abbrev pub invariant-left_of-loop-item : goal.invariant-left_of-loop-item
invariant-left_of-loop-item l = AreMade l.initial.numbering l.numbering (items_parts (table_view l.table.charts.now) l.depth l.level.called.now (around_view l.level.given) l.next (items (flat_map (left_item l.decomposed) (map item_view (take l.item-index l.items))))) l.parts

abbrev pub invariant-beside_of-loop-refining : goal.invariant-beside_of-loop-refining
invariant-beside_of-loop-refining l = AreMade l.fn.numbering l.numbering (beside_parts (table_view l.table.charts.now) l.depth l.level.called.now (around_view l.level.given) l.next l.decomposed (items_view l.items) (refinings_view (take l.refining-index l.refined))) l.parts

abbrev pub invariant-lines_of-loop-line : goal.invariant-lines_of-loop-line
invariant-lines_of-loop-line l = AreMade l.initial.numbering l.numbering (lines_parts (table_view l.table.charts.now) l.depth l.next (lines_view (take l.line-index l.lines))) l.parts

abbrev pub invariant-frames_of-loop-frame : goal.invariant-frames_of-loop-frame
invariant-frames_of-loop-frame l = AreMade l.initial.numbering l.numbering (frames_parts (table_view l.table.charts.now) l.depth l.next (frames_view (take l.frame-index l.frames))) l.parts
