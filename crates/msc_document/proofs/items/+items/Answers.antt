use Rattle.std.proofs.Common.{◌∙◌, [], ◌∷◌, sym, ap, subst, map, length, ◌-◌, ◌+◌, arith}
use Rattle.std.proofs.lemmas.List.{map-append}
use Rattle.msc_tree.specs.Views.{item_view, operand_view, statement_view}
use Rattle.msc_tree.specs.Statements.{Item, Operand}
use Rattle.std.specs.Prelude.{List}
use Rattle.token_grammar.specs.Answers.{Gives, Fails}
use Rattle.token_grammar.specs.Languages.{Read}
use Rattle.token_grammar.proofs.Loops.{no_more, ends_here, next_one, stops_here}
use Rattle.msc_document.specs.DocumentReaders.{column_event_at, column_goes_on, statement_goes_on, end_words, next_part_at}
use Rattle.msc_document.specs.ItemReaders.{operand_at}
use Rattle.msc_document.specs.StatementReaders.{state_of, outside_item_at, statement_words, any_statement_at}
use Rattle.msc_document.proofs.Goings.{none_goes, goes_no_more, goes_one, goes_stops, several_is}
use Rattle.msc_document.proofs.ItemForms.{column_event_is}
use Rattle.msc_document.proofs.StatementForms.{statement_is, any_item, item_alone}
use Rattle.msc_document.proofs.items.+items.Goals.{more_operands-else-loop-k-test, more_operands-then-loop-k-test+then-not-starts_with_either, column_events-else-loop-k-test, column_events-then-loop-k-test+then-not-column_goes_on, several_statements-else-loop-k-test, several_statements-then-loop-k-test+then-not-starts_with_statement, more_items-else-loop-k-test, more_items-then-loop-k-test+then-not-statement_goes_on}
use Rattle.msc_document.proofs.items.+items.Goals as goal

pub several-returns : goal.several-returns
several-returns t c = subst (λ (r : Read (List Operand)). Gives (λ x. (map operand_view x.0.items, x.1.now)) c.listed.result r) (sym (several_is (operand_at c.args.orientation c.args.form c.args.levels) c.args.tokens.now)) c.listed.ensures

pub more_operands-loop-k-preserved : goal.more_operands-loop-k-preserved
more_operands-loop-k-preserved t c =
    let lt = c.loop-k-test.true in
    let q = next_part_at (operand_at c.args.orientation c.args.form c.args.levels) in
    sym (next_one end_words q (map operand_view c.loop-k.operands.items) _ (operand_view c.in-Ok.operand) _ _ c.loop-k.rest.now c.in-Ok.behind.now
    (sym c.starts_with_either.ensures ∙ c.if-not-starts_with_either.false) (omega arith) c.in-Ok.ensures
    (ap (map operand_view) c.in_ok-push-in-Ok.ensures.items ∙ map-append operand_view c.loop-k.operands.items (c.in-Ok.operand ∷ []))) ∙ c.loop-k.invariant

pub more_operands-returns-in-Err : goal.more_operands-returns-in-Err
more_operands-returns-in-Err t c =
    let lt = c.loop-k-test.true in
    let q = next_part_at (operand_at c.args.orientation c.args.form c.args.levels) in
    subst (Fails c.in-Err.fault) c.loop-k.invariant
    (stops_here end_words q c.in-Err.fault (map operand_view c.loop-k.operands.items) _ (length c.args.tokens.now - (c.loop-k._k + 1)) c.loop-k.rest.now
    (sym c.starts_with_either.ensures ∙ c.if-not-starts_with_either.false) (omega arith) c.in-Err.ensures)

pub more_operands-returns : goal.more_operands-returns
more_operands-returns t c =
    let q = next_part_at (operand_at c.args.orientation c.args.form c.args.levels) in
    let prefix = map operand_view c.loop-k.operands.items in
    elim c.loop-k-test.branch [
      | more_operands-else-loop-k-test w ↦ sym c.loop-k.invariant ∙ no_more end_words q prefix _ c.loop-k.rest.now (omega arith)
      | more_operands-then-loop-k-test+then-not-starts_with_either w ↦ sym c.loop-k.invariant ∙ ends_here end_words q prefix _ c.loop-k.rest.now (sym w.starts_with_either.ensures ∙ w.if-not-starts_with_either.true)
    ]

pub column_events-loop-k-preserved : goal.column_events-loop-k-preserved
column_events-loop-k-preserved t c =
    let lt = c.loop-k-test.true in
    let g = column_goes_on c.args.closer in
    let q = column_event_at c.args.levels in
    sym (goes_one g q (map item_view c.loop-k.items.items) _ (item_view c.in-Ok.item) _ _ c.loop-k.rest.now c.in-Ok.behind.now
    (sym c.column_goes_on.ensures ∙ c.if-not-column_goes_on.false) (omega arith) (sym (column_event_is c.args.levels c.loop-k.rest.now) ∙ c.in-Ok.ensures)
    (ap (map item_view) c.in_ok-push-in-Ok.ensures.items ∙ map-append item_view c.loop-k.items.items (c.in-Ok.item ∷ []))) ∙ c.loop-k.invariant

pub column_events-returns-in-Err : goal.column_events-returns-in-Err
column_events-returns-in-Err t c =
    let lt = c.loop-k-test.true in
    let g = column_goes_on c.args.closer in
    let q = column_event_at c.args.levels in
    subst (Fails c.in-Err.fault) c.loop-k.invariant
    (goes_stops g q c.in-Err.fault (map item_view c.loop-k.items.items) _ (length c.args.tokens.now - (c.loop-k._k + 1)) c.loop-k.rest.now
    (sym c.column_goes_on.ensures ∙ c.if-not-column_goes_on.false) (omega arith) (subst (Fails c.in-Err.fault) (column_event_is c.args.levels c.loop-k.rest.now) c.in-Err.ensures))

pub column_events-returns : goal.column_events-returns
column_events-returns t c =
    let g = column_goes_on c.args.closer in
    let q = column_event_at c.args.levels in
    let prefix = map item_view c.loop-k.items.items in
    elim c.loop-k-test.branch [
      | column_events-else-loop-k-test w ↦ sym c.loop-k.invariant ∙ none_goes g q prefix _ c.loop-k.rest.now (omega arith)
      | column_events-then-loop-k-test+then-not-column_goes_on w ↦ sym c.loop-k.invariant ∙ goes_no_more g q prefix _ c.loop-k.rest.now (sym w.column_goes_on.ensures ∙ w.if-not-column_goes_on.true)
    ]

pub several_statements-loop-k-preserved : goal.several_statements-loop-k-preserved
several_statements-loop-k-preserved t c =
    let lt = c.loop-k-test.true in
    let s = statement_words c.args.closer in
    let q = any_statement_at c.args.closer c.args.levels in
    sym (next_one s q (map statement_view c.loop-k.statements.items) _ (statement_view c.in-Ok.statement) _ _ c.loop-k.rest.now c.in-Ok.behind.now
    (sym c.starts_with_statement.ensures ∙ c.if-not-starts_with_statement.false) (omega arith) (statement_is c.args.levels c.args.closer c.loop-k.rest.now ∙ c.in-Ok.ensures)
    (ap (map statement_view) c.in_ok-push-in-Ok.ensures.items ∙ map-append statement_view c.loop-k.statements.items (c.in-Ok.statement ∷ []))) ∙ c.loop-k.invariant

pub several_statements-returns-in-Err : goal.several_statements-returns-in-Err
several_statements-returns-in-Err t c =
    let lt = c.loop-k-test.true in
    let s = statement_words c.args.closer in
    let q = any_statement_at c.args.closer c.args.levels in
    subst (Fails c.in-Err.fault) c.loop-k.invariant
    (stops_here s q c.in-Err.fault (map statement_view c.loop-k.statements.items) _ (length c.args.tokens.now - (c.loop-k._k + 1)) c.loop-k.rest.now
    (sym c.starts_with_statement.ensures ∙ c.if-not-starts_with_statement.false) (omega arith) (subst (Fails c.in-Err.fault) (sym (statement_is c.args.levels c.args.closer c.loop-k.rest.now)) c.in-Err.ensures))

pub several_statements-returns : goal.several_statements-returns
several_statements-returns t c =
    let s = statement_words c.args.closer in
    let q = any_statement_at c.args.closer c.args.levels in
    let prefix = map statement_view c.loop-k.statements.items in
    elim c.loop-k-test.branch [
      | several_statements-else-loop-k-test w ↦ sym c.loop-k.invariant ∙ no_more s q prefix _ c.loop-k.rest.now (omega arith)
      | several_statements-then-loop-k-test+then-not-starts_with_statement w ↦ sym c.loop-k.invariant ∙ ends_here s q prefix _ c.loop-k.rest.now (sym w.starts_with_statement.ensures ∙ w.if-not-starts_with_statement.true)
    ]

pub more_items-loop-k-preserved : goal.more_items-loop-k-preserved
more_items-loop-k-preserved t c =
    let lt = c.loop-k-test.true in
    let g = statement_goes_on c.args.closer (state_of c.args.any) in
    let q = outside_item_at c.args.levels c.args.any in
    sym (goes_one g q (map item_view c.loop-k.items.items) _ (item_view c.in-Ok.item) _ _ c.loop-k.rest.now c.in-Ok.behind.now
    (sym c.statement_goes_on.ensures ∙ c.if-not-statement_goes_on.false) (omega arith) c.in-Ok.ensures
    (ap (map item_view) c.in_ok-push-in-Ok.ensures.items ∙ map-append item_view c.loop-k.items.items (c.in-Ok.item ∷ []))) ∙ c.loop-k.invariant

pub more_items-returns-in-Err : goal.more_items-returns-in-Err
more_items-returns-in-Err t c =
    let lt = c.loop-k-test.true in
    let g = statement_goes_on c.args.closer (state_of c.args.any) in
    let q = outside_item_at c.args.levels c.args.any in
    subst (Fails c.in-Err.fault) c.loop-k.invariant
    (goes_stops g q c.in-Err.fault (map item_view c.loop-k.items.items) _ (length c.args.tokens.now - (c.loop-k._k + 1)) c.loop-k.rest.now
    (sym c.statement_goes_on.ensures ∙ c.if-not-statement_goes_on.false) (omega arith) c.in-Err.ensures)

pub more_items-returns : goal.more_items-returns
more_items-returns t c =
    let g = statement_goes_on c.args.closer (state_of c.args.any) in
    let q = outside_item_at c.args.levels c.args.any in
    let prefix = map item_view c.loop-k.items.items in
    elim c.loop-k-test.branch [
      | more_items-else-loop-k-test w ↦ sym c.loop-k.invariant ∙ none_goes g q prefix _ c.loop-k.rest.now (omega arith)
      | more_items-then-loop-k-test+then-not-statement_goes_on w ↦ sym c.loop-k.invariant ∙ goes_no_more g q prefix _ c.loop-k.rest.now (sym w.statement_goes_on.ensures ∙ w.if-not-statement_goes_on.true)
    ]

pub next_item-returns-then-any : goal.next_item-returns-then-any
next_item-returns-then-any t c =
    subst (λ (r : Read Item). Gives (λ x. (item_view x.0, x.1.now)) c.event.result r) (any_item c.args.levels c.args.any c.args.tokens.now c.if-any.true) c.event.ensures

pub next_item-returns : goal.next_item-returns
next_item-returns t c =
    subst (λ (r : Read Item). Gives (λ x. (item_view x.0, x.1.now)) c.multi.result r) (item_alone c.args.levels c.args.any c.args.tokens.now c.if-any.false) c.multi.ensures
