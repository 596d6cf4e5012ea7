use Rattle.std.proofs.Common.{◌≡◌, ◌∙◌, ◌++◌, [], ◌∷◌, sym, ap, subst, map, length, ◌-◌, ◌+◌, arith}
use Rattle.std.proofs.lemmas.List.{map-append}
use Rattle.msc_tree.specs.Expressions.{Expression}
use Rattle.msc_tree.specs.Views.{expression_view}
use Rattle.token_grammar.specs.Answers.{Gives, Fails}
use Rattle.token_grammar.specs.Languages.{just, Read}
use Rattle.token_grammar.proofs.Loops.{no_more, ends_here, next_one, stops_here}
use Rattle.msc_expression.specs.ExpressionReaders.{word_of, part_at, next_part_at, prefix_at}
use Rattle.msc_expression.proofs.Forms.{form_is}
use Rattle.msc_expression.proofs.expressions.+expressions.Goals.{more_parts-else-loop-k-test, more_parts-then-loop-k-test+then-not-starts}
use Rattle.msc_expression.proofs.expressions.+expressions.Goals as goal

pub prefix-returns : goal.prefix-returns
prefix-returns t c = subst (λ (r : Read Expression). Gives (λ x. (expression_view x.0, x.1.now)) c.prefix_form.result r) (sym (form_is c.args.levels c.args.tokens.now)) c.prefix_form.ensures

pub more_parts-loop-k-preserved : goal.more_parts-loop-k-preserved
more_parts-loop-k-preserved t c =
    let lt = c.loop-k-test.true in
    let q = next_part_at c.args.operator (part_at c.args.operator (prefix_at c.args.levels)) in
    sym (next_one (just (word_of c.args.operator)) q (map expression_view c.loop-k.parts.items) _ (expression_view c.in-Ok.part) _ _ c.loop-k.rest.now c.in-Ok.behind.now
    (sym c.starts.ensures ∙ c.if-not-starts.false) (omega arith) c.in-Ok.ensures
    (ap (map expression_view) c.in_ok-push-in-Ok.ensures.items ∙ map-append expression_view c.loop-k.parts.items (c.in-Ok.part ∷ []))) ∙ c.loop-k.invariant

pub more_parts-returns-in-Err : goal.more_parts-returns-in-Err
more_parts-returns-in-Err t c =
    let lt = c.loop-k-test.true in
    let q = next_part_at c.args.operator (part_at c.args.operator (prefix_at c.args.levels)) in
    subst (Fails c.in-Err.fault) c.loop-k.invariant
    (stops_here (just (word_of c.args.operator)) q c.in-Err.fault (map expression_view c.loop-k.parts.items) _ (length c.args.tokens.now - (c.loop-k._k + 1)) c.loop-k.rest.now
    (sym c.starts.ensures ∙ c.if-not-starts.false) (omega arith) c.in-Err.ensures)

pub more_parts-returns : goal.more_parts-returns
more_parts-returns t c =
    let q = next_part_at c.args.operator (part_at c.args.operator (prefix_at c.args.levels)) in
    let front = map expression_view c.loop-k.parts.items in
    elim c.loop-k-test.branch [
      | more_parts-else-loop-k-test w ↦ sym c.loop-k.invariant ∙ no_more (just (word_of c.args.operator)) q front _ c.loop-k.rest.now (omega arith)
      | more_parts-then-loop-k-test+then-not-starts w ↦ sym c.loop-k.invariant ∙ ends_here (just (word_of c.args.operator)) q front _ c.loop-k.rest.now (sym w.starts.ensures ∙ w.if-not-starts.true)
    ]
