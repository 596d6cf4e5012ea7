use Rattle.std.specs.List.{flat_map}
use Rattle.std.specs.Option.{option_copied}
use Rattle.std.proofs.Common.{rules, ◌≡◌, ◌∙◌, ◌+◌, ◌++◌, ℕ, suc, List, Option, Some, None, IfOk, option_map, map, sym, subst, ap, arith, refl, take, [], ◌∷◌, ◌-◌, true, false}
use Rattle.msc_base.specs.declared.label.Far.{Far}
use Rattle.msc_base.specs.declared.label.Pair.{Pair}
use Rattle.msc_unfolding.specs.Unfoldings.{Tag}
use Rattle.msc_tree.specs.Expressions.{Expression}
use Rattle.msc_tree.specs.Expressions as expression
use Rattle.msc_tree.specs.Graphs.{Node}
use Rattle.msc_tree.specs.Views.{expression_view, graph_view}
use Rattle.msc_tree.specs.Views as tree_view
use Rattle.msc_tree.specs.declared.chart.Decl.{Decl}
use Rattle.msc_tree.specs.declared.expression.RefExpr.{RefExpr}
use Rattle.msc_tree.specs.declared.graph.RawGraph.{RawGraph, out-RawGraph}
use Rattle.msc_tree.specs.declared.graph.RawLine.{RawLine}
use Rattle.msc_tree.specs.declared.reference.Join.{Join}
use Rattle.hmsc_graph.specs.declared.shape.Shape.{Shape}
use Rattle.graph_shapes.proofs.ShapeViews.{graph_is}
use Rattle.msc_meaning.specs.Bodies.{Body, WovenItem, WovenItems}
use Rattle.msc_meaning.specs.Bodies as body
use Rattle.msc_meaning.specs.Calls.{calls}
use Rattle.msc_meaning.specs.ChartUnfoldings.{gates_of, refined_under, refining_under}
use Rattle.msc_meaning.specs.FarEnds.{Around, GateMap, Gates, far_end, gates_inside, gates_referred, inside, no_gates}
use Rattle.msc_meaning.specs.ItemViews.{bodies_view, items_view}
use Rattle.msc_meaning.specs.Refinements.{Match, all_matches, inner_far, is_decomposed, left_of, past_refining, refined_far, refinings}
use Rattle.msc_meaning.specs.Refinements as plain
use Rattle.msc_meaning.specs.Tables.{ChartEntry, chart_at, refinements}
use Rattle.msc_meaning.specs.Tables as table
use Rattle.msc_meaning.specs.Ties.{event_ties, items_joins_ties, level_pairs, own_ties, past_inline, past_reference}
use Rattle.msc_meaning.specs.Views.{body_view, content_view, entry_view, item_view, node_view, table_view}
use Rattle.msc_meaning.specs.declared.body.Body.{out-Body}
use Rattle.msc_meaning.specs.declared.body.Body as rust_body
use Rattle.msc_meaning.specs.declared.body.EventNode as rust_event
use Rattle.msc_meaning.specs.declared.body.Item as rust_item
use Rattle.msc_meaning.specs.declared.body.InlineItem.{out-InlineItem}
use Rattle.refined_events.specs.MatchViews.{matches_view}
use Rattle.gate_ends.specs.LevelGates.{items_in}
use Rattle.general_ordering.proofs.ViewFacts.{body_is, coregion_is, inline_item_is, part_of, reference_is, single_is}
use Rattle.general_ordering.proofs.ViewFacts as views
use Rattle.expanded_charts.specs.Expanding.{Expanded, aside, in_row, inline_by, nothing, past, tied, walk}
use Rattle.level_surroundings.specs.FarEndViews.{far_ends_view}
use Rattle.expanded_charts.specs.GateTies.{ties_view}
use Rattle.level_surroundings.specs.GateWays.{ways_view}
use Rattle.level_surroundings.specs.Givens.{around_view}
use Rattle.expanded_charts.specs.Making.{AreMade, IsMade, events_parts, expression_part, expressions_parts, frames_parts, frames_view, item_part, items_parts, lines_parts, lines_view, node_part, operands_parts}
use Rattle.level_surroundings.specs.TableEnds.{ends_in}
use Rattle.level_surroundings.specs.declared.refining.Refining as rust_refining
use Rattle.level_surroundings.specs.declared.ways.Ways.TheVariants as raw_ways
use Rattle.expanded_charts.specs.RefinedMaking.{AddsItems, beside_parts, left_parts, refined_part, tied_part, woven_part}
use Rattle.expanded_charts.specs.LeftItems.{left_item, unless}
use Rattle.level_surroundings.specs.RefiningViews.{refinings_view}
use Rattle.expanded_charts.proofs.ChartParts.{alt_is, beside_more, beside_none, chart_woven, empty_is, level_is, loop_is, no_chart, no_depth, nowhere_is, opt_is, par_is, refined_is, same_form, seq_is, tied_is, woven_level, woven_refined}
use Rattle.expanded_charts.proofs.GraphParts.{chart_graph, condition_is, connect_is, ends_is, frames_is, frames_step, graph_part_is, lines_step, refer_is}
use Rattle.level_surroundings.proofs.Dropped.{item_at}
use Rattle.expanded_charts.proofs.LeftParts.{adds_none, adds_one, left_are, left_more}
use Rattle.expanded_charts.proofs.Loops.{expressions_step, items_step, operands_step, taken_all}
use Rattle.expanded_charts.proofs.Measures.{body_fits, body_less, deeper, frame_less, graph_deeper, graph_fits, graph_size, item_less, line_less, lines_size, part_less}
use Rattle.expanded_charts.proofs.RefiningFits.{refining_fits}
use Rattle.expanded_charts.proofs.charts.+charts.Goals as goal

pub chart_of-returns-then-depth-eq0 : goal.chart_of-returns-then-depth-eq0
chart_of-returns-then-depth-eq0 t c =
    subst (λ (e : Expanded). IsMade c.args.numbering.now c.args.numbering.now e c.in_row.result) (sym (no_depth (table_view c.args.table.charts.now) (ways_view c.args.ways.now) c.args.next c.args.name.now c.args.depth c.if-depth-eq0.true))
    (c.in_row.ensures c.args.numbering.now c.args.numbering.now (nothing c.args.next) (c.no_parts.ensures c.args.numbering.now))

pub chart_of-returns-in-None : goal.chart_of-returns-in-None
chart_of-returns-in-None t c =
    let none : chart_at (table_view c.args.table.charts.now) c.args.name.now ≡ None = sym c.chart_named.ensures ∙ ap (λ o. option_map entry_view (option_copied o)) c.in-None.is in
    subst (λ (e : Expanded). IsMade c.args.numbering.now c.args.numbering.now e c.in_row-in-None.result) (sym (no_chart (table_view c.args.table.charts.now) (ways_view c.args.ways.now) c.args.next c.args.name.now c.args.depth c.if-depth-eq0.false none))
    (c.in_row-in-None.ensures c.args.numbering.now c.args.numbering.now (nothing c.args.next) (c.no_parts-in-None.ensures c.args.numbering.now))

pub chart_of-woven_of-requires : goal.chart_of-woven_of-requires
chart_of-woven_of-requires t c =
    let there : chart_at (table_view c.args.table.charts.now) c.args.name.now ≡ Some (entry_view c.in-Some.chart.now) = sym c.chart_named.ensures ∙ ap (λ o. option_map entry_view (option_copied o)) c.in-Some.is in
    let held : content_view c.in-Some.chart.now.content ≡ table.Basic (body_view c.in-Basic.body) = ap content_view c.in-Basic.is in
    let fits = body_fits (table_view c.args.table.charts.now) c.args.name.now (body_view c.in-Basic.body) (ap table.body_in there ∙ ap (λ w. table.body_in (Some (record { name = c.in-Some.chart.now.name; decls = c.in-Some.chart.now.decls; content = w }))) held) in
    let less = deeper (table_view c.args.table.charts.now) c.args.depth (body_view c.in-Basic.body) c.if-depth-eq0.false fits in
    (omega (arith, c.decreases, less), (c.requires.named, c.requires.gates))

pub chart_of-graph_of-requires : goal.chart_of-graph_of-requires
chart_of-graph_of-requires t c =
    let charts = table_view c.args.table.charts.now in
    let drawn = graph_view c.in-Graph.graph in
    let there : chart_at charts c.args.name.now ≡ Some (entry_view c.in-Some.chart.now) = sym c.chart_named.ensures ∙ ap (λ o. option_map entry_view (option_copied o)) c.in-Some.is in
    let less = graph_deeper charts c.args.depth drawn c.if-depth-eq0.false (graph_fits charts c.args.name.now (entry_view c.in-Some.chart.now) drawn there (ap content_view c.in-Graph.is)) in
    (omega (arith, c.decreases, less), (c.requires.named, c.requires.gates))

pub chart_of-returns-in_ok-made-in-Graph : goal.chart_of-returns-in_ok-made-in-Graph
chart_of-returns-in_ok-made-in-Graph t c =
    let charts = table_view c.args.table.charts.now in
    let there : chart_at charts c.args.name.now ≡ Some (entry_view c.in-Some.chart.now) = sym c.chart_named.ensures ∙ ap (λ o. option_map entry_view (option_copied o)) c.in-Some.is in
    subst (λ (e : Expanded). IsMade c.args.numbering.now c.graph_of.new.numbering e c.in_ok-made-in-Graph.made)
    (sym (chart_graph charts (ways_view c.args.ways.now) c.args.next c.args.name.now c.args.depth (entry_view c.in-Some.chart.now) (graph_view c.in-Graph.graph) c.if-depth-eq0.false there (ap content_view c.in-Graph.is))) c.in_ok-made-in-Graph.ensures

pub chart_of-returns-in-Basic : goal.chart_of-returns-in-Basic
chart_of-returns-in-Basic t c =
    let charts = table_view c.args.table.charts.now in
    let gates = ways_view c.args.ways.now in
    let chart = c.in-Some.chart.now in
    let body = body_view c.in-Basic.body in
    let there : chart_at charts c.args.name.now ≡ Some (entry_view chart) = sym c.chart_named.ensures ∙ ap (λ o. option_map entry_view (option_copied o)) c.in-Some.is in
    let decls : c.as_slice-decls.result.now ≡ chart.decls = search rules in
    subst (λ (e : Expanded). IfOk c.woven_of.result (IsMade c.args.numbering.now c.woven_of.new.numbering e))
    (ap (λ (ds : List Decl). woven_part charts (c.args.depth - 1) gates c.args.next (refinements ds) body) decls
    ∙ sym (chart_woven charts gates c.args.next c.args.name.now c.args.depth (entry_view chart) body c.if-depth-eq0.false there (ap content_view c.in-Basic.is))) c.woven_of.ensures

pub items_of-loop-item-init : goal.items_of-loop-item-init
items_of-loop-item-init t c = c.no_parts-parts.ensures c.args.numbering.now

pub items_of-item_of-requires : goal.items_of-item_of-requires
items_of-item_of-requires t c =
    let less = item_less c.args.items.now c.loop-item.item-index c.item-item.result (item_at c.args.items.now c.loop-item.item-index c.item-item.result c.loop-item-test.true c.item-item.is) in
    (omega (arith, c.decreases, less), (c.requires.named, c.requires.gates))

pub items_of-loop-item-preserved : goal.items_of-loop-item-preserved
items_of-loop-item-preserved t c =
    items_step (table_view c.args.table.charts.now) c.args.depth c.args.level.called.now (around_view c.args.level.given) c.args.numbering.now c.loop-item.numbering c.item_of.new.numbering c.args.next c.loop-item.parts c.in_ok-made.made c.add.new.parts c.in_ok-add.ensures c.args.items.now c.loop-item.item-index c.item-item.result
    c.loop-item-test.true c.item-item.is c.loop-item.invariant c.in_ok-made.ensures

pub operands_of-loop-operand-init : goal.operands_of-loop-operand-init
operands_of-loop-operand-init t c = c.no_parts-parts.ensures c.args.numbering.now

pub operands_of-level_of-requires : goal.operands_of-level_of-requires
operands_of-level_of-requires t c =
    let less = body_less c.args.operands.now c.loop-operand.operand-index c.operand-item.result (item_at c.args.operands.now c.loop-operand.operand-index c.operand-item.result c.loop-operand-test.true c.operand-item.is) in
    (omega (arith, c.decreases, less), (c.requires.named, c.requires.gates))

pub operands_of-loop-operand-preserved : goal.operands_of-loop-operand-preserved
operands_of-loop-operand-preserved t c =
    operands_step (table_view c.args.table.charts.now) c.args.depth (around_view c.args.given) c.args.numbering.now c.loop-operand.numbering c.level_of.new.numbering c.args.next c.loop-operand.parts c.in_ok-made.made c.add.new.parts c.in_ok-add.ensures c.args.operands.now
    c.loop-operand.operand-index c.operand-item.result c.loop-operand-test.true c.operand-item.is c.loop-operand.invariant c.in_ok-made.ensures

pub expressions_of-loop-expression-init : goal.expressions_of-loop-expression-init
expressions_of-loop-expression-init t c = c.no_parts-parts.ensures c.args.numbering.now

pub expressions_of-expression_of-requires : goal.expressions_of-expression_of-requires
expressions_of-expression_of-requires t c =
    let less = part_less c.args.operands.now c.loop-expression.expression-index c.expression-item.result (item_at c.args.operands.now c.loop-expression.expression-index c.expression-item.result c.loop-expression-test.true c.expression-item.is) in
    (omega (arith, c.decreases, less), (c.requires.named, c.requires.gates))

pub expressions_of-loop-expression-preserved : goal.expressions_of-loop-expression-preserved
expressions_of-loop-expression-preserved t c =
    expressions_step (table_view c.args.table.charts.now) c.args.depth (ways_view c.args.ways.now) c.args.numbering.now c.loop-expression.numbering c.expression_of.new.numbering c.args.next c.loop-expression.parts c.in_ok-made.made c.add.new.parts c.in_ok-add.ensures c.args.operands.now
    c.loop-expression.expression-index c.expression-item.result c.loop-expression-test.true c.expression-item.is c.loop-expression.invariant c.in_ok-made.ensures

pub item_of-returns-in_ok-parts-in-Coregion : goal.item_of-returns-in_ok-parts-in-Coregion
item_of-returns-in_ok-parts-in-Coregion t c =
    let ks = c.in-Coregion.nodes in
    let view : item_view c.args.item.now ≡ body.Coregion (map node_view ks) = ap item_view c.in-Coregion.is ∙ coregion_is ks in
    let listed : c.as_slice.result.now ≡ ks = search rules in
    let events : AreMade c.args.numbering.now c.events_of.new.numbering (events_parts (table_view c.args.table.charts.now) c.args.depth c.args.level.called.now (around_view c.args.level.given) c.args.next (map node_view ks)) c.in_ok-parts-in-Coregion.parts =
    subst (λ (l : List rust_event.EventNode). AreMade c.args.numbering.now c.events_of.new.numbering (events_parts (table_view c.args.table.charts.now) c.args.depth c.args.level.called.now (around_view c.args.level.given) c.args.next (map node_view l)) c.in_ok-parts-in-Coregion.parts) listed (c.in_ok-parts-in-Coregion.ensures (table_view c.args.table.charts.now) c.args.depth) in
    subst (λ (x : WovenItem). IsMade c.args.numbering.now c.events_of.new.numbering (item_part (table_view c.args.table.charts.now) c.args.depth c.args.level.called.now (around_view c.args.level.given) c.args.next x) c.aside.result) (sym view)
    (c.aside.ensures c.args.numbering.now c.events_of.new.numbering (events_parts (table_view c.args.table.charts.now) c.args.depth c.args.level.called.now (around_view c.args.level.given) c.args.next (map node_view ks)) events)

pub expression_of-returns-in-Empty : goal.expression_of-returns-in-Empty
expression_of-returns-in-Empty t c =
    subst (λ (x : Expression). IsMade c.args.numbering.now c.args.numbering.now (expression_part (table_view c.args.table.charts.now) c.args.depth (ways_view c.args.ways.now) c.args.next x) c.in_row.result) (sym (ap expression_view c.in-Empty.is ∙ empty_is))
    (c.in_row.ensures c.args.numbering.now c.args.numbering.now (nothing c.args.next) (c.no_parts.ensures c.args.numbering.now))

pub expression_of-returns-in_ok-parts-in-Alt : goal.expression_of-returns-in_ok-parts-in-Alt
expression_of-returns-in_ok-parts-in-Alt t c =
    let listed : c.as_slice.result.now ≡ c.in-Alt.parts.items = search rules in
    let held = subst (λ (l : List RefExpr). AreMade c.args.numbering.now c.expressions_of.new.numbering (expressions_parts (table_view c.args.table.charts.now) c.args.depth (ways_view c.args.ways.now) c.args.next (expression.expressions (map expression_view l))) c.in_ok-parts-in-Alt.parts) listed c.in_ok-parts-in-Alt.ensures in
    subst (λ (x : Expression). IsMade c.args.numbering.now c.expressions_of.new.numbering (expression_part (table_view c.args.table.charts.now) c.args.depth (ways_view c.args.ways.now) c.args.next x) c.one_of.result) (sym (ap expression_view c.in-Alt.is ∙ alt_is c.in-Alt.parts))
    (c.one_of.ensures c.args.numbering.now c.expressions_of.new.numbering (expressions_parts (table_view c.args.table.charts.now) c.args.depth (ways_view c.args.ways.now) c.args.next (expression.expressions (map expression_view c.in-Alt.parts.items))) held)

pub expression_of-returns-in_ok-parts-in-Par : goal.expression_of-returns-in_ok-parts-in-Par
expression_of-returns-in_ok-parts-in-Par t c =
    let listed : c.as_slice-in-Par.result.now ≡ c.in-Par.parts.items = search rules in
    let held = subst (λ (l : List RefExpr). AreMade c.args.numbering.now c.expressions_of-in-Par.new.numbering (expressions_parts (table_view c.args.table.charts.now) c.args.depth (ways_view c.args.ways.now) c.args.next (expression.expressions (map expression_view l))) c.in_ok-parts-in-Par.parts) listed c.in_ok-parts-in-Par.ensures in
    subst (λ (x : Expression). IsMade c.args.numbering.now c.expressions_of-in-Par.new.numbering (expression_part (table_view c.args.table.charts.now) c.args.depth (ways_view c.args.ways.now) c.args.next x) c.aside.result) (sym (ap expression_view c.in-Par.is ∙ par_is c.in-Par.parts))
    (c.aside.ensures c.args.numbering.now c.expressions_of-in-Par.new.numbering (expressions_parts (table_view c.args.table.charts.now) c.args.depth (ways_view c.args.ways.now) c.args.next (expression.expressions (map expression_view c.in-Par.parts.items))) held)

pub expression_of-returns-in_ok-parts-in-Seq : goal.expression_of-returns-in_ok-parts-in-Seq
expression_of-returns-in_ok-parts-in-Seq t c =
    let listed : c.as_slice-in-Seq.result.now ≡ c.in-Seq.parts.items = search rules in
    let held = subst (λ (l : List RefExpr). AreMade c.args.numbering.now c.expressions_of-in-Seq.new.numbering (expressions_parts (table_view c.args.table.charts.now) c.args.depth (ways_view c.args.ways.now) c.args.next (expression.expressions (map expression_view l))) c.in_ok-parts-in-Seq.parts) listed c.in_ok-parts-in-Seq.ensures in
    subst (λ (x : Expression). IsMade c.args.numbering.now c.expressions_of-in-Seq.new.numbering (expression_part (table_view c.args.table.charts.now) c.args.depth (ways_view c.args.ways.now) c.args.next x) c.in_row-in-Seq.result) (sym (ap expression_view c.in-Seq.is ∙ seq_is c.in-Seq.parts))
    (c.in_row-in-Seq.ensures c.args.numbering.now c.expressions_of-in-Seq.new.numbering (expressions_parts (table_view c.args.table.charts.now) c.args.depth (ways_view c.args.ways.now) c.args.next (expression.expressions (map expression_view c.in-Seq.parts.items))) held)

pub expression_of-returns-in_ok-made-in-Opt-2 : goal.expression_of-returns-in_ok-made-in-Opt-2
expression_of-returns-in_ok-made-in-Opt-2 t c =
    let part = c.in-Opt.part.value in
    let held = subst (λ (x : RefExpr). IsMade c.args.numbering.now c.expression_of.new.numbering (expression_part (table_view c.args.table.charts.now) c.args.depth (ways_view c.args.ways.now) c.args.next (expression_view x)) c.in_ok-made-in-Opt.made) c.deref.ensures c.in_ok-made-in-Opt.ensures in
    subst (λ (x : Expression). IsMade c.args.numbering.now c.expression_of.new.numbering (expression_part (table_view c.args.table.charts.now) c.args.depth (ways_view c.args.ways.now) c.args.next x) c.in_ok-made-in-Opt-2.made) (sym (ap expression_view c.in-Opt.is ∙ opt_is c.in-Opt.part))
    (c.in_ok-made-in-Opt-2.ensures c.args.numbering.now c.expression_of.new.numbering (expression_part (table_view c.args.table.charts.now) c.args.depth (ways_view c.args.ways.now) c.args.next (expression_view part)) held)

pub expression_of-returns-in_ok-made-in-Loop-2 : goal.expression_of-returns-in_ok-made-in-Loop-2
expression_of-returns-in_ok-made-in-Loop-2 t c =
    let part = c.in-Loop.part.value in
    let held = subst (λ (x : RefExpr). IsMade c.args.numbering.now c.expression_of-in-Loop.new.numbering (expression_part (table_view c.args.table.charts.now) c.args.depth (ways_view c.args.ways.now) c.args.next (expression_view x)) c.in_ok-made-in-Loop.made) c.deref-in-Loop.ensures c.in_ok-made-in-Loop.ensures in
    subst (λ (x : Expression). IsMade c.args.numbering.now c.expression_of-in-Loop.new.numbering (expression_part (table_view c.args.table.charts.now) c.args.depth (ways_view c.args.ways.now) c.args.next x) c.in_ok-made-in-Loop-2.made) (sym (ap expression_view c.in-Loop.is ∙ loop_is c.in-Loop.lower c.in-Loop.upper c.in-Loop.part))
    (c.in_ok-made-in-Loop-2.ensures c.args.numbering.now c.expression_of-in-Loop.new.numbering (expression_part (table_view c.args.table.charts.now) c.args.depth (ways_view c.args.ways.now) c.args.next (expression_view part)) held)

pub tied_of-returns : goal.tied_of-returns
tied_of-returns t c =
    let charts = table_view c.args.table.charts.now in
    let held = out-Body c.args.body.now in
    let xs = items_view held.items.items in
    let around = around_view c.args.given in
    let listed : c.as_slice.result.now ≡ held.items.items = search rules in
    let also_listed : c.as_slice-4.result.now ≡ held.items.items = search rules in
    let tied_list : c.as_slice-5.result.now ≡ c.in_ok-ties.ties.items = search rules in
    let pairs : c.in_ok-pairs.pairs ≡ level_pairs xs held.pairs = search rules in
    let inside : items_in (body_view c.args.body.now) ≡ xs = ap items_in (body_is c.args.body.now) in
    let called : c.in_ok-called.called ≡ gates_of xs (ends_in charts xs) = c.in_ok-called.ensures ∙ ap (λ (ys : WovenItems). gates_of ys (ends_in charts ys)) inside in
    let ties : ties_view c.as_slice-5.result.now ≡ event_ties (calls xs) ++ items_joins_ties (ends_in charts xs) xs =
    ap ties_view tied_list ∙ (c.in_ok-ties.ensures
    ∙ (ap (λ (l : List rust_item.Item). event_ties (calls (items_view l)) ++ items_joins_ties c.in_ok-called.called.ends (items_view l)) also_listed ∙ ap (λ (g : Gates). event_ties (calls xs) ++ items_joins_ties g.ends xs) called)) in
    let parts = items_parts charts c.args.depth (gates_of xs (ends_in charts xs)) around c.args.next xs in
    let items : AreMade c.args.numbering.now c.items_of.new.numbering parts c.in_ok-parts.parts =
    subst (λ (g : Gates). AreMade c.args.numbering.now c.items_of.new.numbering (items_parts charts c.args.depth g around c.args.next xs) c.in_ok-parts.parts) called
    (subst (λ (l : List rust_item.Item). AreMade c.args.numbering.now c.items_of.new.numbering (items_parts charts c.args.depth c.in_ok-called.called around c.args.next (items_view l)) c.in_ok-parts.parts) listed c.in_ok-parts.ensures) in
    let row = c.in_row.ensures c.args.numbering.now c.items_of.new.numbering parts items in
    let made = c.in_ok-made.ensures c.args.numbering.now c.items_of.new.numbering (in_row parts) row in
    subst (λ (e : Expanded). IsMade c.args.numbering.now c.items_of.new.numbering e c.in_ok-made.made) (sym (ap (tied_part charts c.args.depth around c.args.next) (body_is c.args.body.now) ∙ tied_is charts c.args.depth around c.args.next held.cover xs held.pairs))
    (subst (λ (ts : List (Tag × Tag)). IsMade c.args.numbering.now c.items_of.new.numbering (tied (own_ties (level_pairs xs held.pairs) ++ ts) (in_row parts)) c.in_ok-made.made) ties
    (subst (λ (ps : List Pair). IsMade c.args.numbering.now c.items_of.new.numbering (tied (own_ties ps ++ ties_view c.as_slice-5.result.now) (in_row parts)) c.in_ok-made.made) pairs made))

pub level_of-returns : goal.level_of-returns
level_of-returns t c =
    let charts = table_view c.args.table.charts.now in
    let around = around_view c.args.given in
    let body = body_view c.args.body.now in
    subst (λ (e : Expanded). IsMade c.args.numbering.now c.tied_of.new.numbering e c.in_ok-made-2.made) (sym (level_is charts c.args.depth around c.args.next body))
    (c.in_ok-made-2.ensures c.args.numbering.now c.tied_of.new.numbering (tied_part charts c.args.depth around c.args.next body) c.in_ok-made.ensures)

pub inline_of-returns : goal.inline_of-returns
inline_of-returns t c =
    let charts = table_view c.args.table.charts.now in
    let inline = out-InlineItem c.args.inline.now in
    let part = part_of c.args.inline.now in
    let called = c.args.level.called.now in
    let outside = around_view c.args.level.given in
    let name : option_copied c.as_ref-name.result ≡ inline.name = search rules in
    let gates : ways_view c.in_ok-ways.ways ≡ gates_inside called inline.name outside.gates = c.in_ok-ways.ensures ∙ ap (λ (n : Option (List ℕ)). gates_inside called n outside.gates) name in
    let listed : c.as_slice-operands.result.now ≡ inline.operands.items = search rules in
    let operands = operands_parts charts c.args.depth (inside called inline.name outside) c.args.next (bodies_view inline.operands.items) in
    let held : AreMade c.args.numbering.now c.operands_of.new.numbering operands c.in_ok-parts.parts =
    subst (λ (l : List rust_body.Body). AreMade c.args.numbering.now c.operands_of.new.numbering (operands_parts charts c.args.depth (inside called inline.name outside) c.args.next (bodies_view l)) c.in_ok-parts.parts) listed
    (subst (λ (g : GateMap). AreMade c.args.numbering.now c.operands_of.new.numbering (operands_parts charts c.args.depth (record { gates = g; far = outside.far }) c.args.next (bodies_view c.as_slice-operands.result.now)) c.in_ok-parts.parts) gates c.in_ok-parts.ensures) in
    let inner : IsMade c.args.numbering.now c.operands_of.new.numbering (inline_by inline.form part c.args.next operands) c.in_ok-made.made =
    c.in_ok-made.ensures part refl refl c.args.numbering.now c.operands_of.new.numbering operands held in
    let above = c.in_ok-made-2.ensures c.args.numbering.now c.operands_of.new.numbering (inline_by inline.form part c.args.next operands) inner in
    subst (λ (x : WovenItem). IsMade c.args.numbering.now c.operands_of.new.numbering (item_part charts c.args.depth called outside c.args.next x) c.in_ok-made-2.made) (sym (views.inline_is c.args.inline.now))
    (subst (λ (n : Option (List ℕ)). IsMade c.args.numbering.now c.operands_of.new.numbering (past (past_inline called.calls n) (inline_by inline.form part c.args.next operands)) c.in_ok-made-2.made) name above)

pub reference_of-returns : goal.reference_of-returns
reference_of-returns t c =
    let charts = table_view c.args.table.charts.now in
    let r = c.args.reference.now in
    let called = c.args.level.called.now in
    let outside = ways_view c.args.level.given.ways.now in
    let name : option_copied c.as_ref-name.result ≡ r.name = search rules in
    let joins : c.in_ok-joins.joins ≡ r.joins = search rules in
    let gates : ways_view c.in_ok-ways.ways ≡ gates_referred called r.name r.joins outside =
    c.in_ok-ways.ensures ∙ (ap (λ (n : Option (List ℕ)). gates_referred called n c.in_ok-joins.joins outside) name ∙ ap (λ (js : List Join). gates_referred called r.name js outside) joins) in
    let part = expression_part charts c.args.depth (gates_referred called r.name r.joins outside) c.args.next (expression_view r.expr) in
    let held : IsMade c.args.numbering.now c.expression_of.new.numbering part c.in_ok-made.made =
    subst (λ (g : GateMap). IsMade c.args.numbering.now c.expression_of.new.numbering (expression_part charts c.args.depth g c.args.next (expression_view r.expr)) c.in_ok-made.made) gates c.in_ok-made.ensures in
    let above = c.in_ok-made-2.ensures c.args.numbering.now c.expression_of.new.numbering part held in
    subst (λ (js : List Join). IsMade c.args.numbering.now c.expression_of.new.numbering (past (past_reference called.calls r.name js) part) c.in_ok-made-2.made) joins
    (subst (λ (n : Option (List ℕ)). IsMade c.args.numbering.now c.expression_of.new.numbering (past (past_reference called.calls n c.in_ok-joins.joins) part) c.in_ok-made-2.made) name above)

pub woven_of-returns-then-is_empty : goal.woven_of-returns-then-is_empty
woven_of-returns-then-is_empty t c =
    let charts = table_view c.args.table.charts.now in
    let rs = refinements c.args.decls.now in
    let none : rs ≡ [] = sym c.in_ok-decomposed.ensures ∙ c.is_empty.ensures.none c.if-is_empty.true in
    subst (λ (e : Expanded). IsMade c.args.numbering.now c.level_of.new.numbering e c.in_ok-made.made) (sym (woven_level charts c.args.depth (ways_view c.args.ways.now) c.args.next rs (body_view c.args.body.now) none)) c.in_ok-made.ensures

pub woven_of-returns : goal.woven_of-returns
woven_of-returns t c =
    let charts = table_view c.args.table.charts.now in
    let gates = ways_view c.args.ways.now in
    let body = body_view c.args.body.now in
    let rs = refinements c.args.decls.now in
    let are : c.in_ok-decomposed.decomposed ≡ rs = c.in_ok-decomposed.ensures in
    let some : rs ≡ [] → ⊥ = λ e. c.is_empty.ensures.some c.if-is_empty.false (are ∙ e) in
    subst (λ (e : Expanded). IsMade c.args.numbering.now c.refined_of.new.numbering e c.in_ok-made-2.made)
    (ap (λ (l : List table.Refinement). refined_part charts c.args.depth gates c.args.next l body) are ∙ sym (woven_refined charts c.args.depth gates c.args.next rs body some)) c.in_ok-made-2.ensures

pub refined_of-returns : goal.refined_of-returns
refined_of-returns t c =
    let charts = table_view c.args.table.charts.now in
    let held = out-Body c.args.body.now in
    let xs = items_view held.items.items in
    let gates = ways_view c.args.ways.now in
    let rs = c.args.decomposed.now in
    let all = refinings charts xs rs in
    let listed : c.as_slice-items.result.now ≡ held.items.items = search rules in
    let tied_list : c.as_slice-5.result.now ≡ c.in_ok-ties.ties.items = search rules in
    let pairs : c.in_ok-pairs.pairs ≡ level_pairs xs held.pairs = search rules in
    let inside : items_in (body_view c.args.body.now) ≡ xs = ap items_in (body_is c.args.body.now) in
    let called : c.in_ok-called.called ≡ gates_of xs (ends_in charts xs) = c.in_ok-called.ensures ∙ ap (λ (ys : WovenItems). gates_of ys (ends_in charts ys)) inside in
    let ties : ties_view c.as_slice-5.result.now ≡ event_ties (calls xs) ++ items_joins_ties (ends_in charts xs) xs =
    ap ties_view tied_list ∙ (c.in_ok-ties.ensures
    ∙ (ap (λ (l : List rust_item.Item). event_ties (calls (items_view l)) ++ items_joins_ties c.in_ok-called.called.ends (items_view l)) listed ∙ ap (λ (g : Gates). event_ties (calls xs) ++ items_joins_ties g.ends xs) called)) in
    let refined_list : c.as_slice-2.result.now ≡ c.in_ok-refined.refined.items = search rules in
    let refined : refinings_view c.in_ok-refined.refined.items ≡ all =
    c.in_ok-refined.ensures ∙ (ap (refinings charts (items_view c.as_slice-items.result.now)) c.list.ensures ∙ ap (λ (l : List rust_item.Item). refinings charts (items_view l) rs) listed) in
    let also_refined : refinings_view c.as_slice-2.result.now ≡ all = ap refinings_view refined_list ∙ refined in
    let level_list : c.as_slice.result.now ≡ held.pairs = search rules in
    let far : far_ends_view c.in_ok-far.far ≡ refined_far held.pairs (all_matches all) =
    c.in_ok-far.ensures ∙ (ap (λ (ps : List Pair). refined_far ps (all_matches (refinings_view c.as_slice-2.result.now))) level_list ∙ ap (λ (l : List plain.Refining). refined_far held.pairs (all_matches l)) also_refined) in
    let around : (let a : Around = record { gates = gates; far = far_ends_view c.in_ok-far.far } in a) ≡ refined_under gates held.pairs all = ap (λ (f : ℕ → Option Far). let a : Around = record { gates = gates; far = f } in a) far in
    let given : Around = record { gates = gates; far = far_ends_view c.in_ok-far.far } in
    let third_refined : refinings_view c.as_slice-3.result.now ≡ all = ap refinings_view (let e : c.as_slice-3.result.now ≡ c.in_ok-refined.refined.items = search rules in e) ∙ refined in
    let besides = beside_parts charts c.args.depth c.in_ok-called.called given c.args.next rs xs (refinings_view c.as_slice-3.result.now) in
    let parts : AreMade c.args.numbering.now c.beside_of.new.numbering besides c.in_ok-parts.parts =
    subst (λ (l : List rust_item.Item). AreMade c.args.numbering.now c.beside_of.new.numbering (beside_parts charts c.args.depth c.in_ok-called.called given c.args.next rs (items_view l) (refinings_view c.as_slice-3.result.now)) c.in_ok-parts.parts) listed c.in_ok-parts.ensures in
    let row : IsMade c.args.numbering.now c.beside_of.new.numbering (aside besides) c.aside.result = c.aside.ensures c.args.numbering.now c.beside_of.new.numbering besides parts in
    let tied_row = c.in_ok-made.ensures c.args.numbering.now c.beside_of.new.numbering (aside besides) row in
    let whole = c.in_ok-made-2.ensures c.args.numbering.now c.beside_of.new.numbering (tied (own_ties c.in_ok-pairs.pairs ++ ties_view c.as_slice-5.result.now) (aside besides)) tied_row in
    subst (λ (e : Expanded). IsMade c.args.numbering.now c.beside_of.new.numbering e c.in_ok-made-2.made)
    (same_form charts c.args.depth c.args.next rs c.in_ok-pairs.pairs (level_pairs xs held.pairs) (ties_view c.as_slice-5.result.now) (event_ties (calls xs) ++ items_joins_ties (ends_in charts xs) xs) c.in_ok-called.called (gates_of xs (ends_in charts xs))
    given (refined_under gates held.pairs all) xs (refinings_view c.as_slice-3.result.now) all pairs ties called around third_refined
    ∙ sym (ap (refined_part charts c.args.depth gates c.args.next rs) (body_is c.args.body.now) ∙ refined_is charts c.args.depth c.args.next rs gates held.cover xs held.pairs)) whole

pub beside_of-loop-refining-init : goal.beside_of-loop-refining-init
beside_of-loop-refining-init t c =
    let left = left_parts (table_view c.args.table.charts.now) c.args.depth c.args.level.called.now (around_view c.args.level.given) c.args.next c.args.decomposed.now (items_view c.args.items.now) in
    beside_none (table_view c.args.table.charts.now) c.args.depth c.args.level.called.now (around_view c.args.level.given) c.args.next c.args.decomposed.now (items_view c.args.items.now)
    c.args.numbering.now c.left_of.new.numbering c.no_parts-parts.result c.add.new.parts c.in_row.result (c.no_parts-parts.ensures c.args.numbering.now)
    (c.in_row.ensures c.args.numbering.now c.left_of.new.numbering left c.in_ok-left.ensures) c.in_ok-add.ensures

pub beside_of-refining_of-requires : goal.beside_of-refining_of-requires
beside_of-refining_of-requires t c =
    let fits = refining_fits (table_view c.args.table.charts.now) (items_view c.args.items.now) c.args.decomposed.now c.args.refined.now c.loop-refining.refining-index c.refining-item.result c.requires.refined c.loop-refining-test.true c.refining-item.is in
    (omega (arith, c.decreases, fits), (c.requires.named, c.requires.gates))

pub beside_of-loop-refining-preserved : goal.beside_of-loop-refining-preserved
beside_of-loop-refining-preserved t c =
    beside_more (table_view c.args.table.charts.now) c.args.depth c.args.level.called.now (around_view c.args.level.given) c.args.next c.args.decomposed.now (items_view c.args.items.now)
    c.args.numbering.now c.loop-refining.numbering c.refining_of.new.numbering c.args.refined.now c.loop-refining.refining-index c.refining-item.result c.loop-refining.parts c.add-in-loop-refining.new.parts c.in_ok-made.made c.loop-refining-test.true c.refining-item.is
    c.loop-refining.invariant c.in_ok-made.ensures c.in_ok-add-2.ensures

pub beside_of-returns : goal.beside_of-returns
beside_of-returns t c =
    subst (λ (l : List rust_refining.Refining). AreMade c.args.numbering.now c.loop-refining.numbering (beside_parts (table_view c.args.table.charts.now) c.args.depth c.args.level.called.now (around_view c.args.level.given) c.args.next c.args.decomposed.now (items_view c.args.items.now) (refinings_view l)) c.loop-refining.parts)
    (taken_all c.args.refined.now c.loop-refining.refining-index c.loop-refining-test.false) c.loop-refining.invariant

pub refining_of-returns : goal.refining_of-returns
refining_of-returns t c =
    let charts = table_view c.args.table.charts.now in
    let far_of = far_end c.args.level.called.now.ends (around_view c.args.level.given) in
    let r = c.args.refining.now in
    let ms = matches_view r.matches.items in
    let listed : matches_view c.as_slice-matches.result.now ≡ ms = ap matches_view (let e : c.as_slice-matches.result.now ≡ r.matches.items = search rules in e) in
    let far : far_ends_view c.in_ok-far.far ≡ inner_far far_of ms = c.in_ok-far.ensures ∙ ap (inner_far far_of) listed in
    let around : (let a : Around = record { gates = ways_view raw_ways.Nowhere; far = far_ends_view c.in_ok-far.far } in a) ≡ refining_under far_of ms = ap (λ (g : GateMap). let a : Around = record { gates = g; far = far_ends_view c.in_ok-far.far } in a) nowhere_is ∙ ap (λ (f : ℕ → Option Far). let a : Around = record { gates = no_gates; far = f } in a) far in
    let part = tied_part charts c.args.depth (refining_under far_of ms) c.args.next (body_view r.body.now) in
    let held : IsMade c.args.numbering.now c.tied_of.new.numbering part c.in_ok-made.made =
    subst (λ (a : Around). IsMade c.args.numbering.now c.tied_of.new.numbering (tied_part charts c.args.depth a c.args.next (body_view r.body.now)) c.in_ok-made.made) around c.in_ok-made.ensures in
    subst (λ (l : List Match). IsMade c.args.numbering.now c.tied_of.new.numbering (past (past_refining l) part) c.in_ok-made-2.made) listed (c.in_ok-made-2.ensures c.args.numbering.now c.tied_of.new.numbering part held)

pub left_of-loop-item-init : goal.left_of-loop-item-init
left_of-loop-item-init t c = c.no_parts-parts.ensures c.args.numbering.now

pub left_of-add_left-requires : goal.left_of-add_left-requires
left_of-add_left-requires t c =
    let less = item_less c.args.items.now c.loop-item.item-index c.item-item.result (item_at c.args.items.now c.loop-item.item-index c.item-item.result c.loop-item-test.true c.item-item.is) in
    (omega (arith, c.decreases, less), (c.requires.named, c.requires.gates))

pub left_of-loop-item-preserved : goal.left_of-loop-item-preserved
left_of-loop-item-preserved t c =
    let rs = c.args.decomposed.now in
    subst (λ (l : List WovenItem). AreMade c.args.numbering.now c.add_left.new.numbering (items_parts (table_view c.args.table.charts.now) c.args.depth c.args.level.called.now (around_view c.args.level.given) c.args.next (body.items l)) c.add_left.new.parts)
    (sym (left_more rs c.args.items.now c.loop-item.item-index c.item-item.result c.loop-item-test.true c.item-item.is))
    (c.in_ok-add_left.ensures c.args.numbering.now c.args.next (flat_map (left_item rs) (map item_view (take c.loop-item.item-index c.args.items.now))) c.loop-item.invariant)

pub left_of-returns : goal.left_of-returns
left_of-returns t c =
    let rs = c.args.decomposed.now in
    let xs = map item_view c.args.items.now in
    subst (λ (held : WovenItems). AreMade c.args.numbering.now c.loop-item.numbering (items_parts (table_view c.args.table.charts.now) c.args.depth c.args.level.called.now (around_view c.args.level.given) c.args.next held) c.loop-item.parts) (sym (left_are rs xs))
    (subst (λ (l : List rust_item.Item). AreMade c.args.numbering.now c.loop-item.numbering (items_parts (table_view c.args.table.charts.now) c.args.depth c.args.level.called.now (around_view c.args.level.given) c.args.next (body.items (flat_map (left_item rs) (map item_view l)))) c.loop-item.parts)
    (taken_all c.args.items.now c.loop-item.item-index c.loop-item-test.false) c.loop-item.invariant)

-- ---- what is left of an item

pub add_left-returns-then-has : goal.add_left-returns-then-has
add_left-returns-then-has t c =
    let charts = table_view c.args.table.charts.now in
    let rs = c.args.decomposed.now in
    let k = node_view c.in-Single.node in
    let there : is_decomposed rs k ≡ true = sym c.has.ensures ∙ c.if-has.true in
    let gone : left_item rs (item_view c.args.item.now) ≡ [] = ap (left_item rs) (ap item_view c.in-Single.is ∙ single_is c.in-Single.node) ∙ ap (λ b. unless b (body.Single k)) there in
    subst (λ (xs : List WovenItem). AddsItems charts c.args.depth c.args.level.called.now (around_view c.args.level.given) c.args.numbering.now c.args.numbering.now xs c.args.parts.now c.args.parts.now) (sym gone)
    (adds_none charts c.args.depth c.args.level.called.now (around_view c.args.level.given) c.args.numbering.now c.args.numbering.now c.args.parts.now)

pub add_left-returns-in_ok-add-in-Single : goal.add_left-returns-in_ok-add-in-Single
add_left-returns-in_ok-add-in-Single t c =
    let charts = table_view c.args.table.charts.now in
    let rs = c.args.decomposed.now in
    let k = node_view c.in-Single.node in
    let there : is_decomposed rs k ≡ false = sym c.has.ensures ∙ c.if-has.false in
    let stays : left_item rs (item_view c.args.item.now) ≡ body.Single k ∷ [] = ap (left_item rs) (ap item_view c.in-Single.is ∙ single_is c.in-Single.node) ∙ ap (λ b. unless b (body.Single k)) there in
    subst (λ (xs : List WovenItem). AddsItems charts c.args.depth c.args.level.called.now (around_view c.args.level.given) c.args.numbering.now c.event_of.new.numbering xs c.args.parts.now c.add.new.parts) (sym stays)
    (adds_one charts c.args.depth c.args.level.called.now (around_view c.args.level.given) c.args.numbering.now c.event_of.new.numbering c.args.parts.now (body.Single k) c.in_ok-made-in-Single.made c.add.new.parts c.in_ok-made-in-Single.ensures c.in_ok-add-in-Single.ensures)

pub add_left-returns-in_ok-add-in-Coregion : goal.add_left-returns-in_ok-add-in-Coregion
add_left-returns-in_ok-add-in-Coregion t c =
    let charts = table_view c.args.table.charts.now in
    let rs = c.args.decomposed.now in
    let called = c.args.level.called.now in
    let around = around_view c.args.level.given in
    let ks = c.in-Coregion.nodes in
    let left = left_of rs (map node_view ks) in
    let view : left_item rs (item_view c.args.item.now) ≡ body.Coregion left ∷ [] = ap (left_item rs) (ap item_view c.in-Coregion.is ∙ coregion_is ks) in
    let listed : c.as_slice-nodes.result.now ≡ ks = search rules in
    let events : AreMade c.args.numbering.now c.events_left.new.numbering (events_parts charts c.args.depth called around c.args.parts.now.next left) c.in_ok-events-in-Coregion.events =
    subst (λ (l : List rust_event.EventNode). AreMade c.args.numbering.now c.events_left.new.numbering (events_parts charts c.args.depth called around c.args.parts.now.next (left_of rs (map node_view l))) c.in_ok-events-in-Coregion.events) listed (c.in_ok-events-in-Coregion.ensures charts c.args.depth) in
    let held = c.aside.ensures c.args.numbering.now c.events_left.new.numbering (events_parts charts c.args.depth called around c.args.parts.now.next left) events in
    subst (λ (xs : List WovenItem). AddsItems charts c.args.depth called around c.args.numbering.now c.events_left.new.numbering xs c.args.parts.now c.add-in-Coregion.new.parts) (sym view)
    (adds_one charts c.args.depth called around c.args.numbering.now c.events_left.new.numbering c.args.parts.now (body.Coregion left) c.aside.result c.add-in-Coregion.new.parts held c.in_ok-add-in-Coregion.ensures)

pub add_left-returns-in_ok-add-in-Inline : goal.add_left-returns-in_ok-add-in-Inline
add_left-returns-in_ok-add-in-Inline t c =
    let charts = table_view c.args.table.charts.now in
    let called = c.args.level.called.now in
    let around = around_view c.args.level.given in
    let i = c.in-Inline.field-0 in
    let x = item_view c.args.item.now in
    let e = ap item_view c.in-Inline.is ∙ (inline_item_is i ∙ views.inline_is i) in
    let view : left_item c.args.decomposed.now x ≡ x ∷ [] = ap (left_item c.args.decomposed.now) e ∙ sym (ap (λ (y : WovenItem). y ∷ []) e) in
    subst (λ (xs : List WovenItem). AddsItems charts c.args.depth called around c.args.numbering.now c.item_of.new.numbering xs c.args.parts.now c.add-in-Inline.new.parts) (sym view)
    (adds_one charts c.args.depth called around c.args.numbering.now c.item_of.new.numbering c.args.parts.now x c.in_ok-made-in-Inline.made c.add-in-Inline.new.parts c.in_ok-made-in-Inline.ensures c.in_ok-add-in-Inline.ensures)

pub add_left-returns-in_ok-add-in-Reference : goal.add_left-returns-in_ok-add-in-Reference
add_left-returns-in_ok-add-in-Reference t c =
    let charts = table_view c.args.table.charts.now in
    let called = c.args.level.called.now in
    let around = around_view c.args.level.given in
    let i = c.in-Reference.field-0 in
    let x = item_view c.args.item.now in
    let e = ap item_view c.in-Reference.is ∙ (reference_is i) in
    let view : left_item c.args.decomposed.now x ≡ x ∷ [] = ap (left_item c.args.decomposed.now) e ∙ sym (ap (λ (y : WovenItem). y ∷ []) e) in
    subst (λ (xs : List WovenItem). AddsItems charts c.args.depth called around c.args.numbering.now c.item_of-in-Reference.new.numbering xs c.args.parts.now c.add-in-Reference.new.parts) (sym view)
    (adds_one charts c.args.depth called around c.args.numbering.now c.item_of-in-Reference.new.numbering c.args.parts.now x c.in_ok-made-in-Reference.made c.add-in-Reference.new.parts c.in_ok-made-in-Reference.ensures c.in_ok-add-in-Reference.ensures)

-- ---- graphs

pub graph_of-lines_of-requires : goal.graph_of-lines_of-requires
graph_of-lines_of-requires t c =
    let g = c.args.graph.now in
    let listed : c.as_slice.result.now ≡ (out-RawGraph g).lines.items = search rules in
    let less = ap graph_size (graph_is g) in
    let same = ap (λ (ls : List RawLine). lines_size (lines_view ls)) listed in
    (omega (arith, c.decreases, less, same), (c.requires.named, c.requires.gates))

pub graph_of-returns : goal.graph_of-returns
graph_of-returns t c =
    let charts = table_view c.args.table.charts.now in
    let g = c.args.graph.now in
    let ls = (out-RawGraph g).lines.items in
    let listed : c.as_slice.result.now ≡ ls = search rules in
    let from : c.args.next + 1 ≡ suc c.args.next = omega arith in
    let parts = lines_parts charts c.args.depth (suc c.args.next) (lines_view ls) in
    let held : AreMade c.args.numbering.now c.lines_of.new.numbering parts c.in_ok-parts.parts =
    subst (λ (n : ℕ). AreMade c.args.numbering.now c.lines_of.new.numbering (lines_parts charts c.args.depth n (lines_view ls)) c.in_ok-parts.parts) from
    (subst (λ (l : List RawLine). AreMade c.args.numbering.now c.lines_of.new.numbering (lines_parts charts c.args.depth (c.args.next + 1) (lines_view l)) c.in_ok-parts.parts) listed c.in_ok-parts.ensures) in
    let made = c.walk.ensures c.args.numbering.now c.lines_of.new.numbering parts held in
    subst (λ (e : Expanded). IsMade c.args.numbering.now c.lines_of.new.numbering e c.walk.result) (sym (graph_part_is charts c.args.depth c.args.next g))
    (subst (λ (s : Shape). IsMade c.args.numbering.now c.lines_of.new.numbering (walk c.args.next s parts) c.walk.result) c.in_ok-shape.ensures made)

pub lines_of-loop-line-init : goal.lines_of-loop-line-init
lines_of-loop-line-init t c = c.no_parts-parts.ensures c.args.numbering.now

pub lines_of-node_of-requires : goal.lines_of-node_of-requires
lines_of-node_of-requires t c =
    let less = line_less c.args.lines.now c.loop-line.line-index c.line-item.result (item_at c.args.lines.now c.loop-line.line-index c.line-item.result c.loop-line-test.true c.line-item.is) in
    (omega (arith, c.decreases, less), (c.requires.named, c.requires.gates))

pub lines_of-loop-line-preserved : goal.lines_of-loop-line-preserved
lines_of-loop-line-preserved t c =
    lines_step (table_view c.args.table.charts.now) c.args.depth c.args.numbering.now c.loop-line.numbering c.node_of.new.numbering c.args.next c.loop-line.parts c.in_ok-made.made c.add.new.parts c.in_ok-add.ensures c.args.lines.now c.loop-line.line-index c.line-item.result
    c.loop-line-test.true c.line-item.is c.loop-line.invariant c.in_ok-made.ensures

pub frames_of-loop-frame-init : goal.frames_of-loop-frame-init
frames_of-loop-frame-init t c = c.no_parts-parts.ensures c.args.numbering.now

pub frames_of-graph_of-requires : goal.frames_of-graph_of-requires
frames_of-graph_of-requires t c =
    let less = frame_less c.args.frames.now c.loop-frame.frame-index c.frame-item.result (item_at c.args.frames.now c.loop-frame.frame-index c.frame-item.result c.loop-frame-test.true c.frame-item.is) in
    (omega (arith, c.decreases, less), (c.requires.named, c.requires.gates))

pub frames_of-loop-frame-preserved : goal.frames_of-loop-frame-preserved
frames_of-loop-frame-preserved t c =
    frames_step (table_view c.args.table.charts.now) c.args.depth c.args.numbering.now c.loop-frame.numbering c.graph_of.new.numbering c.args.next c.loop-frame.parts c.in_ok-made.made c.add.new.parts c.in_ok-add.ensures c.args.frames.now c.loop-frame.frame-index c.frame-item.result
    c.loop-frame-test.true c.frame-item.is c.loop-frame.invariant c.in_ok-made.ensures

pub node_of-returns-in-Ends : goal.node_of-returns-in-Ends
node_of-returns-in-Ends t c =
    subst (λ (x : Node). IsMade c.args.numbering.now c.args.numbering.now (node_part (table_view c.args.table.charts.now) c.args.depth c.args.next x) c.in_row.result) (sym (ap tree_view.node_view c.in-Ends.is ∙ ends_is))
    (c.in_row.ensures c.args.numbering.now c.args.numbering.now (nothing c.args.next) (c.no_parts.ensures c.args.numbering.now))

pub node_of-returns-in-Connect : goal.node_of-returns-in-Connect
node_of-returns-in-Connect t c =
    subst (λ (x : Node). IsMade c.args.numbering.now c.args.numbering.now (node_part (table_view c.args.table.charts.now) c.args.depth c.args.next x) c.in_row-in-Connect.result) (sym (ap tree_view.node_view c.in-Connect.is ∙ connect_is))
    (c.in_row-in-Connect.ensures c.args.numbering.now c.args.numbering.now (nothing c.args.next) (c.no_parts-in-Connect.ensures c.args.numbering.now))

pub node_of-returns-in-Condition : goal.node_of-returns-in-Condition
node_of-returns-in-Condition t c =
    subst (λ (x : Node). IsMade c.args.numbering.now c.args.numbering.now (node_part (table_view c.args.table.charts.now) c.args.depth c.args.next x) c.in_row-in-Condition.result) (sym (ap tree_view.node_view c.in-Condition.is ∙ condition_is c.in-Condition.field-0))
    (c.in_row-in-Condition.ensures c.args.numbering.now c.args.numbering.now (nothing c.args.next) (c.no_parts-in-Condition.ensures c.args.numbering.now))

pub node_of-returns-in_ok-made-in-Refer : goal.node_of-returns-in_ok-made-in-Refer
node_of-returns-in_ok-made-in-Refer t c =
    let charts = table_view c.args.table.charts.now in
    let x = c.in-Refer.expression in
    let held : IsMade c.args.numbering.now c.expression_of.new.numbering (expression_part charts c.args.depth no_gates c.args.next (expression_view x)) c.in_ok-made-in-Refer.made =
    subst (λ (g : GateMap). IsMade c.args.numbering.now c.expression_of.new.numbering (expression_part charts c.args.depth g c.args.next (expression_view x)) c.in_ok-made-in-Refer.made) nowhere_is c.in_ok-made-in-Refer.ensures in
    subst (λ (y : Node). IsMade c.args.numbering.now c.expression_of.new.numbering (node_part charts c.args.depth c.args.next y) c.in_ok-made-in-Refer.made) (sym (ap tree_view.node_view c.in-Refer.is ∙ refer_is x)) held

pub node_of-returns-in_ok-parts-in-Frames : goal.node_of-returns-in_ok-parts-in-Frames
node_of-returns-in_ok-parts-in-Frames t c =
    let charts = table_view c.args.table.charts.now in
    let gs = c.in-Frames.frames.items in
    let listed : c.as_slice.result.now ≡ gs = search rules in
    let parts = frames_parts charts c.args.depth c.args.next (frames_view gs) in
    let held : AreMade c.args.numbering.now c.frames_of.new.numbering parts c.in_ok-parts-in-Frames.parts =
    subst (λ (l : List RawGraph). AreMade c.args.numbering.now c.frames_of.new.numbering (frames_parts charts c.args.depth c.args.next (frames_view l)) c.in_ok-parts-in-Frames.parts) listed c.in_ok-parts-in-Frames.ensures in
    subst (λ (x : Node). IsMade c.args.numbering.now c.frames_of.new.numbering (node_part charts c.args.depth c.args.next x) c.aside.result) (sym (ap tree_view.node_view c.in-Frames.is ∙ frames_is c.in-Frames.frames))
    (c.aside.ensures c.args.numbering.now c.frames_of.new.numbering parts held)
