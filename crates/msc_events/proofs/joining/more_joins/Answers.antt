use Rattle.std.proofs.Common.{◌∙◌, sym, subst, arith, length, ◌-◌, ◌+◌, codes}
use Rattle.token_grammar.specs.Answers.{Fails}
use Rattle.token_grammar.specs.Languages.{just}
use Rattle.msc_events.specs.MultiReaders.{comma_join_at}
use Rattle.token_grammar.proofs.Loops.{no_more, ends_here, next_one, stops_here}
use Rattle.msc_events.proofs.joining.more_joins.Goals.{else-loop-k-test, then-loop-k-test+then-not-starts_with}
use Rattle.msc_events.proofs.joining.more_joins.Goals as goal

pub loop-k-preserved : goal.loop-k-preserved
loop-k-preserved c =
    let lt = c.loop-k-test.true in
    sym (next_one (just (codes ",")) comma_join_at c.loop-k.joins _ c.in-Ok.join _ _ c.loop-k.rest.now c.in-Ok.behind.now
    (sym c.starts_with.ensures ∙ c.if-not-starts_with.false) (omega arith) c.in-Ok.ensures c.in_ok-push-in-Ok.ensures.ok) ∙ c.loop-k.invariant

pub returns-in-Err : goal.returns-in-Err
returns-in-Err c =
    let lt = c.loop-k-test.true in
    subst (Fails c.in-Err.fault) c.loop-k.invariant
    (stops_here (just (codes ",")) comma_join_at c.in-Err.fault c.loop-k.joins _ (length c.args.tokens.now - (c.loop-k._k + 1)) c.loop-k.rest.now (sym c.starts_with.ensures ∙ c.if-not-starts_with.false) (omega arith) c.in-Err.ensures)

pub returns : goal.returns
returns c =
    elim c.loop-k-test.branch [
      | else-loop-k-test w ↦ sym c.loop-k.invariant ∙ no_more (just (codes ",")) comma_join_at c.loop-k.joins _ c.loop-k.rest.now (omega arith)
      | then-loop-k-test+then-not-starts_with w ↦ sym c.loop-k.invariant ∙ ends_here (just (codes ",")) comma_join_at c.loop-k.joins _ c.loop-k.rest.now (sym w.starts_with.ensures ∙ w.if-not-starts_with.true)
    ]
