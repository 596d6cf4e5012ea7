use Rattle.std.proofs.Common.{◌∙◌, ◌++◌, Some, ap, sym, arith}
use Rattle.chart_term.specs.NormalForms.{begun}
use Rattle.chart_term.proofs.Turns.{turns_step, turns_whole}
use Rattle.chart_term.proofs.choices.push_turns.Goals as goal

pub loop-index-preserved : goal.loop-index-preserved
loop-index-preserved c = turns_step (begun c.args.turns.now) c.loop-index.index c.in_ok-copy.field-0 c.args.list.now c.loop-index.list c.push.new.self (c.term_at.ensures ∙ ap (λ x. Some x) (sym c.in_ok-copy.ensures)) c.loop-index.invariant c.in_ok-push.ensures.ok

pub returns : goal.returns
returns c = c.loop-index.invariant ∙ ap (λ l. c.args.list.now ++ l) (turns_whole c.args.turns.now c.loop-index.index c.requires (omega (arith, c.loop-index-test.false, c.len-index-end.ensures)))
