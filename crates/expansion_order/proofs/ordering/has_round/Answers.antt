use Rattle.std.proofs.Common.{◌+◌, All, List, refl, sym, subst}
use Rattle.column_order.specs.Answers.{IfStuck, IfWhole}
use Rattle.column_order.specs.Counts.{Inside, EdgeLeads}
use Rattle.column_order.specs.Orders.{IsStuckAt, IsWhole}
use Rattle.column_order.specs.declared.edge.Edge.{Edge}
use Rattle.column_order.specs.declared.sorting.Sorted.{Sorted}
use Rattle.expansion_tree.specs.Views.{expansion_view}
use Rattle.expansion_order.proofs.Sorting.{drawn_rank, drawn_round, edges_inside, none_drawn, order_ranks}
use Rattle.expansion_order.proofs.ordering.has_round.Goals as goal

pub sort_edges-requires-clause-inside : goal.sort_edges-requires-clause-inside
sort_edges-requires-clause-inside c =
    let m = c.above_events-events.result in
    let n = m + c.draw.new.web.bars in
    subst (λ (l : List Edge). All (Inside n) l) (sym c.as_slice.ensures) (edges_inside c.draw.new.web m n c.in_ok-edges.edges c.in_ok-draw.ensures.drawn.tidy c.above_events-events.ensures.below c.in_ok-edges.ensures refl)

pub returns-in-Whole-clause-ranked : goal.returns-in-Whole-clause-ranked
returns-in-Whole-clause-ranked c = λ e.
    let m = c.above_events-events.result in
    let n = m + c.draw.new.web.bars in
    let w = c.draw.new.web in
    let whole : IsWhole n (EdgeLeads c.as_slice.result.now) c.in-Whole.field-0.items = subst (λ (s : Sorted). IfWhole s (λ order. IsWhole n (EdgeLeads c.as_slice.result.now) order.items)) c.in-Whole.is c.in_ok-sort_edges.ensures.whole in
    drawn_rank (expansion_view c.args.part.now) c.nothing-web.result w c.in_ok-draw.ensures.drawn
    (order_ranks w m n c.in_ok-edges.edges c.in_ok-draw.ensures.drawn.tidy c.above_events-events.ensures.below c.in_ok-edges.ensures refl c.in-Whole.field-0.items (subst (λ (l : List Edge). IsWhole n (EdgeLeads l) c.in-Whole.field-0.items) c.as_slice.ensures whole))

pub returns-clause-cyclic : goal.returns-clause-cyclic
returns-clause-cyclic c = λ e.
    let m = c.above_events-events.result in
    let n = m + c.draw.new.web.bars in
    let w = c.draw.new.web in
    let stuck : IsStuckAt n (EdgeLeads c.as_slice.result.now) c.in-Stuck.field-0 = subst (λ (s : Sorted). IfStuck s (IsStuckAt n (EdgeLeads c.as_slice.result.now))) c.in-Stuck.is c.in_ok-sort_edges.ensures.stuck in
    drawn_round (expansion_view c.args.part.now) c.nothing-web.result w c.in_ok-draw.ensures.drawn (none_drawn c.nothing-web.result c.nothing-web.ensures.pairs c.nothing-web.ensures.before) m n c.in_ok-edges.edges
    c.above_events-events.ensures.below c.in_ok-edges.ensures refl c.in-Stuck.field-0 (subst (λ (l : List Edge). IsStuckAt n (EdgeLeads l) c.in-Stuck.field-0) c.as_slice.ensures stuck)
