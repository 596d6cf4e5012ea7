use Rattle.std.proofs.Common.{◌≡◌, ◌∙◌, ap, sym, subst, true, drop, List, Option, IfOk}
use Rattle.bit_sets.specs.Blocks.{BlockValue}
use Rattle.chart_term.specs.NormalForms.{only}
use Rattle.chart_term.specs.Rows.{part_of}
use Rattle.chart_term.specs.Properties.{EachTurn}
use Rattle.chart_term.specs.Terms.{Tree, Part}
use Rattle.term_permission.specs.Ready.{AreReadyParts}
use Rattle.term_laws.specs.Normality.{AreApart, IsNotNil}
use Rattle.term_laws.specs.Listing.{may_begin}
use Rattle.term_laws.specs.Permission.{permit, permits_of}
use Rattle.term_permission.specs.RowRests.{keep_parts, no_rest, rest_end, turn_before}
use Rattle.term_step.specs.Searches.{is_gap, tail_of}
use Rattle.term_laws.specs.Taking.{fewer, down}
use Rattle.term_laws.specs.Values.{block_of}
use Rattle.term_step.proofs.LoopLeft.{loop-shut, loop-none, loop-some, counts-are}
use Rattle.term_step.proofs.Ascending.{apart-drop}
use Rattle.term_permission.proofs.Joins.{each-drop, each-take}
use Rattle.term_permission.proofs.PermitRows.{ready-take}
use Rattle.term_permission.proofs.PermitLoops.{if-kept, if-lost}
use Rattle.term_step.proofs.ascent.loops.put_in_loop.Goals as goal

pub returns-then-branch : goal.returns-then-branch
returns-then-branch c =
    let high : c.fewer.result ≡ fewer (is_gap (part_of c.at.result.now)) c.args.turns.upper = c.fewer.ensures ∙ ap (λ b. fewer b c.args.turns.upper) c.is_gap-begins.ensures in
    let end : c.put_turn.new.self ≡ turn_before c.args.left (tail_of (fewer (is_gap (part_of c.at.result.now)) c.args.turns.upper) (drop c.first_behind-behind.result c.args.turns.row.now) no_rest) =
    c.in_ok-put_turn.ensures ∙ ap (turn_before c.args.left) (c.in_ok-put_tail.ensures ∙ (λ j. tail_of (high j) (c.in_ok-tail.ensures j) no_rest)) in
    let may : may_begin (is_gap (part_of c.at.result.now)) c.args.turns.upper ≡ true = ap (λ b. may_begin b c.args.turns.upper) (sym c.is_gap-begins.ensures) ∙ (sym c.may_begin.ensures ∙ c.if-not-may_begin.false) in
    let counts = counts-are c.args.turns.row.now c.args.index (part_of c.at.result.now) c.is_gap-begins.result c.last_before-before.result c.first_behind-behind.result c.at.ensures c.is_gap-begins.ensures c.last_before-before.ensures c.first_behind-behind.ensures in
    let kept = if-kept _ _ _ c.in_ok-keep_parts.ensures cc in
    let low : c.down.result ≡ down (is_gap (part_of c.at.result.now)) c.args.turns.lower = c.down.ensures ∙ ap (λ b. down b c.args.turns.lower) c.is_gap-begins.ensures in
    let some = loop-some c.args.nets.now.tables c.args.taken.now c.requires.taken c.args.turns.body.now c.args.turns.lower c.args.turns.upper c.args.turns.row.now c.args.index (part_of c.at.result.now) c.args.left c.requires.row c.at.ensures c.in_ok-all.all.instances c.in_ok-narrow.narrow.instances c.in_ok-all.ensures (ap (λ (b : BlockValue). b.instances) c.in_ok-narrow.ensures) may c.last_before-before.result c.first_behind-behind.result counts c.keep_parts.new.end ((λ j. keep_parts (λ d. permit (permits_of c.args.nets.now.tables) (only d) c.args.turns.body.now) (λ z. permit (permits_of c.args.nets.now.tables) (block_of c.args.taken.now.at) z) (sym high j) c.in_ok-narrow.narrow.instances (sym c.in_ok-front.ensures j) (sym end j)) ∙ kept) in
    subst (λ (v : Option Tree). IfOk c.loop_end.result (λ x. x ≡ v)) ((λ j. rest_end c.args.turns.body.now (low j) (high j) c.keep_parts.new.end) ∙ sym some) c.loop_end.ensures

pub returns : goal.returns
returns c =
    let high : c.fewer.result ≡ fewer (is_gap (part_of c.at.result.now)) c.args.turns.upper = c.fewer.ensures ∙ ap (λ b. fewer b c.args.turns.upper) c.is_gap-begins.ensures in
    let end : c.put_turn.new.self ≡ turn_before c.args.left (tail_of (fewer (is_gap (part_of c.at.result.now)) c.args.turns.upper) (drop c.first_behind-behind.result c.args.turns.row.now) no_rest) =
    c.in_ok-put_turn.ensures ∙ ap (turn_before c.args.left) (c.in_ok-put_tail.ensures ∙ (λ j. tail_of (high j) (c.in_ok-tail.ensures j) no_rest)) in
    let may : may_begin (is_gap (part_of c.at.result.now)) c.args.turns.upper ≡ true = ap (λ b. may_begin b c.args.turns.upper) (sym c.is_gap-begins.ensures) ∙ (sym c.may_begin.ensures ∙ c.if-not-may_begin.false) in
    let counts = counts-are c.args.turns.row.now c.args.index (part_of c.at.result.now) c.is_gap-begins.result c.last_before-before.result c.first_behind-behind.result c.at.ensures c.is_gap-begins.ensures c.last_before-before.ensures c.first_behind-behind.ensures in
    let lost = if-lost _ _ _ c.in_ok-keep_parts.ensures cc in
    sym (loop-none c.args.nets.now.tables c.args.taken.now c.requires.taken c.args.turns.body.now c.args.turns.lower c.args.turns.upper c.args.turns.row.now c.args.index (part_of c.at.result.now) c.args.left c.requires.row c.at.ensures c.in_ok-all.all.instances c.in_ok-narrow.narrow.instances c.in_ok-all.ensures (ap (λ (b : BlockValue). b.instances) c.in_ok-narrow.ensures) may c.last_before-before.result c.first_behind-behind.result counts ((λ j. keep_parts (λ d. permit (permits_of c.args.nets.now.tables) (only d) c.args.turns.body.now) (λ z. permit (permits_of c.args.nets.now.tables) (block_of c.args.taken.now.at) z) (sym high j) c.in_ok-narrow.narrow.instances (sym c.in_ok-front.ensures j) (sym end j)) ∙ lost))

pub returns-then-not-may_begin : goal.returns-then-not-may_begin
returns-then-not-may_begin c =
    sym (loop-shut c.args.nets.now.tables c.args.taken.now c.requires.taken c.args.turns.body.now c.args.turns.lower c.args.turns.upper c.args.turns.row.now c.args.index (part_of c.at.result.now) c.args.left c.requires.row c.at.ensures (ap (λ b. may_begin b c.args.turns.upper) (sym c.is_gap-begins.ensures) ∙ (sym c.may_begin.ensures ∙ c.if-not-may_begin.true)))

pub put_tail-requires-clause-apart : goal.put_tail-requires-clause-apart
put_tail-requires-clause-apart c = subst (λ (ps : List Part). AreApart ps) (sym c.in_ok-tail.ensures) (apart-drop c.args.turns.row.now c.first_behind-behind.result c.requires.row.normal.apart)

pub put_tail-requires-clause-over : goal.put_tail-requires-clause-over
put_tail-requires-clause-over c = subst (λ (ps : List Part). EachTurn IsNotNil ps) (sym c.in_ok-tail.ensures) (each-drop IsNotNil c.args.turns.row.now c.first_behind-behind.result c.requires.row.normal.not_over)

pub keep_parts-requires-clause-row : goal.keep_parts-requires-clause-row
keep_parts-requires-clause-row c = subst (λ (ps : List Part). AreReadyParts c.args.nets.now.tables ps) (sym c.in_ok-front.ensures) (ready-take c.args.nets.now.tables c.args.turns.row.now c.last_before-before.result c.requires.row.parts)

pub keep_parts-requires-clause-over : goal.keep_parts-requires-clause-over
keep_parts-requires-clause-over c = subst (λ (ps : List Part). EachTurn IsNotNil ps) (sym c.in_ok-front.ensures) (each-take IsNotNil c.args.turns.row.now c.last_before-before.result c.requires.row.normal.not_over)
