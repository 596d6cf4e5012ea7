use Rattle.std.proofs.Common.{◌∙◌, sym, subst, arith, length, ◌-◌, ◌+◌}
use Rattle.token_grammar.specs.Answers.{Fails}
use Rattle.msc_events.proofs.HeadLists.{no_more, ends_here, next_one, stops_here}
use Rattle.msc_events.proofs.head.heads.Goals.{else-loop-k-test, then-loop-k-test+then-not-starts_with_head}
use Rattle.msc_events.proofs.head.heads.Goals as goal

pub loop-k-preserved : goal.loop-k-preserved
loop-k-preserved c =
    let lt = c.loop-k-test.true in
    sym (next_one c.loop-k.declared c.in-Ok.more _ _ c.loop-k.rest.now c.in-Ok.behind.now
    (sym c.starts_with_head.ensures ∙ c.if-not-starts_with_head.false) (omega arith) c.in-Ok.ensures) ∙ c.loop-k.invariant

pub returns-in-Err : goal.returns-in-Err
returns-in-Err c =
    let lt = c.loop-k-test.true in
    subst (Fails c.in-Err.fault) c.loop-k.invariant
    (stops_here c.in-Err.fault c.loop-k.declared _ (length c.args.tokens.now - (c.loop-k._k + 1)) c.loop-k.rest.now (sym c.starts_with_head.ensures ∙ c.if-not-starts_with_head.false) (omega arith) c.in-Err.ensures)

pub returns : goal.returns
returns c =
    elim c.loop-k-test.branch [
      | else-loop-k-test w ↦ sym c.loop-k.invariant ∙ no_more c.loop-k.declared _ c.loop-k.rest.now (omega arith)
      | then-loop-k-test+then-not-starts_with_head w ↦ sym c.loop-k.invariant ∙ ends_here c.loop-k.declared _ c.loop-k.rest.now (sym w.starts_with_head.ensures ∙ w.if-not-starts_with_head.true)
    ]
