use Rattle.std.proofs.Common.{◌≡◌, ◌∙◌, List, ap, arith, map, sym}
use Rattle.std.proofs.lemmas.Bool.{true≢false}
use Rattle.msc_tree.specs.Expressions as plain
use Rattle.msc_tree.specs.Views.{expression_view}
use Rattle.msc_tree.specs.declared.expression.RefExpr.{RefExpr}
use Rattle.shared_parts.proofs.Pairs.{always, as_long, compared_all, compared_more, compared_other, never, of_same, same_of}
use Rattle.shared_parts.proofs.SameFacts.{alt_is, alt_same, par_is, par_same, seq_is, seq_same}
use Rattle.shared_parts.proofs.expressions.+expressions.Goals as goal

pub is_alt-returns-in-Alt : goal.is_alt-returns-in-Alt
is_alt-returns-in-Alt t c =
    alt_same (expression_view c.args.expression.now) c.same_parts.result (map expression_view c.as_slice.result.now) (map expression_view c.args.parts.now) c.same_parts.ensures
    (ap expression_view c.in-Alt.is ∙ alt_is c.in-Alt.others ∙ ap (λ (l : List RefExpr). plain.Alt (plain.expressions (map expression_view l))) (sym c.as_slice.ensures.value))

pub is_par-returns-in-Par : goal.is_par-returns-in-Par
is_par-returns-in-Par t c =
    par_same (expression_view c.args.expression.now) c.same_parts.result (map expression_view c.as_slice.result.now) (map expression_view c.args.parts.now) c.same_parts.ensures
    (ap expression_view c.in-Par.is ∙ par_is c.in-Par.others ∙ ap (λ (l : List RefExpr). plain.Par (plain.expressions (map expression_view l))) (sym c.as_slice.ensures.value))

pub is_seq-returns-in-Seq : goal.is_seq-returns-in-Seq
is_seq-returns-in-Seq t c =
    seq_same (expression_view c.args.expression.now) c.same_parts.result (map expression_view c.as_slice.result.now) (map expression_view c.args.parts.now) c.same_parts.ensures
    (ap expression_view c.in-Seq.is ∙ seq_is c.in-Seq.others ∙ ap (λ (l : List RefExpr). plain.Seq (plain.expressions (map expression_view l))) (sym c.as_slice.ensures.value))

-- ---- several parts

abbrev IsSame : RefExpr → RefExpr → Type 0
IsSame x y = expression_view x ≡ expression_view y

pub same_parts-loop-index-preserved : goal.same_parts-loop-index-preserved
same_parts-loop-index-preserved t c =
    compared_more IsSame c.args.a.now c.args.b.now c.loop-index.index c.index-a-index.result c.index-b-index.result c.loop-index-test.true (omega (arith, c.loop-index-test.true, c.if-a-b.false))
    c.index-a-index.is c.index-b-index.is (c.same_expression.ensures.0 c.if-not-same_expression.false) c.loop-index.invariant

pub same_parts-returns : goal.same_parts-returns
same_parts-returns t c =
    always (same_of expression_view c.args.a.now c.args.b.now
    (compared_all IsSame c.args.a.now c.args.b.now c.loop-index.index c.loop-index-test.false (omega (arith, c.loop-index-test.false, c.if-a-b.false)) c.loop-index.invariant))

pub same_parts-returns-then-a-b : goal.same_parts-returns-then-a-b
same_parts-returns-then-a-b t c = never (λ same. c.if-a-b.true (as_long IsSame c.args.a.now c.args.b.now (of_same expression_view c.args.a.now c.args.b.now same)))

pub same_parts-returns-then-not-same_expression : goal.same_parts-returns-then-not-same_expression
same_parts-returns-then-not-same_expression t c =
    never (λ same. compared_other IsSame c.args.a.now c.args.b.now c.loop-index.index c.index-a-index.result c.index-b-index.result c.loop-index-test.true (omega (arith, c.loop-index-test.true, c.if-a-b.false))
    c.index-a-index.is c.index-b-index.is (λ e. true≢false (sym (c.same_expression.ensures.1 e) ∙ c.if-not-same_expression.true)) c.loop-index.invariant
    (of_same expression_view c.args.a.now c.args.b.now same))
