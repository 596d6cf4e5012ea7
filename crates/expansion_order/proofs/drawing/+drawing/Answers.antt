use Rattle.std.proofs.Common.{◌≡◌, ◌++◌, ◌∙◌, sym, subst, ap, List}
use Rattle.std.specs.BTreeMap.{get}
use Rattle.std.specs.Ordering.{nat_cmp}
use Rattle.msc_base.specs.declared.label.Pair.{Pair}
use Rattle.expansion_tree.specs.Expansions.{Tied}
use Rattle.expansion_tree.specs.Numbered as plain
use Rattle.expansion_tree.specs.declared.tree.Expansion.{Expansion}
use Rattle.expansion_tree.proofs.ViewFacts.{tied_is}
use Rattle.expansion_tree.specs.Views.{expansion_view}
use Rattle.expansion_order.specs.Precedence.{HasPair, Precedes}
use Rattle.expansion_order.specs.Webs.{AreDrawn, IsPut}
use Rattle.expansion_order.specs.declared.stops.Stop.{Stop}
use Rattle.expansion_order.proofs.Drawn.{drawn_then}
use Rattle.expansion_order.proofs.Rows.{each_step, row_step}
use Rattle.expansion_order.proofs.drawing.+drawing.Goals as goal

pub draw-returns-in_ok-stops-in-Tied-clause-drawn : goal.draw-returns-in_ok-stops-in-Tied-clause-drawn
draw-returns-in_ok-stops-in-Tied-clause-drawn t c =
    let view : expansion_view c.args.part.now ≡ Tied (expansion_view c.in-Tied.inner.value) c.in-Tied.pairs = ap expansion_view c.in-Tied.is ∙ tied_is c.in-Tied.inner c.in-Tied.pairs in
    let inside : AreDrawn (Precedes (expansion_view c.in-Tied.inner.value)) c.draw_pairs.new.web c.draw-in-Tied.new.web = subst (λ (x : Expansion). AreDrawn (Precedes (expansion_view x)) c.draw_pairs.new.web c.draw-in-Tied.new.web) c.deref-in-Tied.ensures c.in_ok-stops-in-Tied.ensures.drawn in
    let first : AreDrawn (HasPair c.in-Tied.pairs) c.args.web.now c.draw_pairs.new.web = subst (λ (ps : List Pair). AreDrawn (HasPair ps) c.args.web.now c.draw_pairs.new.web) c.as_slice-in-Tied.ensures c.in_ok-draw_pairs-in-Tied.ensures in
    subst (λ (x : plain.Expansion). AreDrawn (Precedes x) c.args.web.now c.draw-in-Tied.new.web) (sym view)
    (drawn_then (HasPair c.in-Tied.pairs) (Precedes (expansion_view c.in-Tied.inner.value)) c.args.web.now c.draw_pairs.new.web c.draw-in-Tied.new.web first inside)

pub draw_each-loop-part-preserved : goal.draw_each-loop-part-preserved
draw_each-loop-part-preserved t c =
    each_step c.args.web.now c.loop-part.web c.draw.new.web c.args.parts.now c.loop-part.part-index c.part-item.result c.loop-part.all c.in_ok-stops.stops c.append.new.list c.loop-part-test.true c.part-item.is c.loop-part.invariant c.in_ok-stops.ensures.stops
    c.in_ok-stops.ensures.drawn (c.in_ok-append.ensures ∙ ap (λ (l : List Stop). c.loop-part.all ++ l) c.as_slice.ensures)

pub draw_row-loop-part-preserved : goal.draw_row-loop-part-preserved
draw_row-loop-part-preserved t c =
    row_step c.args.web.now c.loop-part.web c.draw.new.web c.put.new.web (get nat_cmp c.loop-part.last) (get nat_cmp c.put.new.last) c.args.parts.now c.loop-part.part-index c.part-item.result c.is_exception.result c.loop-part.all c.in_ok-stops.stops c.append.new.list
    c.loop-part-test.true c.part-item.is c.loop-part.invariant c.in_ok-stops.ensures.stops c.in_ok-stops.ensures.drawn
    (subst (λ (l : List Stop). IsPut c.draw.new.web c.put.new.web (get nat_cmp c.loop-part.last) (get nat_cmp c.put.new.last) c.is_exception.result l) c.as_slice.ensures c.in_ok-put.ensures)
    c.is_exception.ensures (c.in_ok-append.ensures ∙ ap (λ (l : List Stop). c.loop-part.all ++ l) c.as_slice-in-loop-part.ensures)
