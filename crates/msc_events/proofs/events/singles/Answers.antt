use Rattle.std.proofs.Common.{◌∙◌, sym, subst, arith, length, ◌-◌, ◌+◌}
use Rattle.token_grammar.specs.Answers.{Fails}
use Rattle.msc_events.specs.EventReaders.{single_at, single_words}
use Rattle.token_grammar.proofs.Loops.{none_yet, no_more, ends_here, next_one, stops_here}
use Rattle.msc_events.proofs.events.singles.Goals.{else-loop-k-test, then-loop-k-test+then-not-starts_with_single}
use Rattle.msc_events.proofs.events.singles.Goals as goal

pub loop-k-init : goal.loop-k-init
loop-k-init c = none_yet single_words single_at _ _ (length c.args.tokens.now) c.args.tokens.now c.new-events.ensures (omega arith)

pub loop-k-preserved : goal.loop-k-preserved
loop-k-preserved c =
    let lt = c.loop-k-test.true in
    sym (next_one single_words single_at c.loop-k.events _ c.in-Ok.event _ _ c.loop-k.rest.now c.in-Ok.behind.now
    (sym c.starts_with_single.ensures ∙ c.if-not-starts_with_single.false) (omega arith) c.in-Ok.ensures c.in_ok-push-in-Ok.ensures.ok) ∙ c.loop-k.invariant

pub returns-in-Err : goal.returns-in-Err
returns-in-Err c =
    let lt = c.loop-k-test.true in
    subst (Fails c.in-Err.fault) c.loop-k.invariant
    (stops_here single_words single_at c.in-Err.fault c.loop-k.events _ (length c.args.tokens.now - (c.loop-k._k + 1)) c.loop-k.rest.now (sym c.starts_with_single.ensures ∙ c.if-not-starts_with_single.false) (omega arith) c.in-Err.ensures)

pub returns : goal.returns
returns c =
    elim c.loop-k-test.branch [
      | else-loop-k-test w ↦ sym c.loop-k.invariant ∙ no_more single_words single_at c.loop-k.events _ c.loop-k.rest.now (omega arith)
      | then-loop-k-test+then-not-starts_with_single w ↦ sym c.loop-k.invariant ∙ ends_here single_words single_at c.loop-k.events _ c.loop-k.rest.now (sym w.starts_with_single.ensures ∙ w.if-not-starts_with_single.true)
    ]
