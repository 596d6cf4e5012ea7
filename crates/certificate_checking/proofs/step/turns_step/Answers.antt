use Rattle.std.proofs.Common.{Some, sym, subst, arith}
use Rattle.certificate_checking.specs.Tasks.{IsQuietStep}
use Rattle.certificate_checking.specs.declared.step.Step.{Step}
use Rattle.certificate_checking.specs.declared.step.Task.TheVariants as task
use Rattle.certificate_checking.proofs.QuietSteps.{turns_none_at, turns_first_at}
use Rattle.certificate_checking.proofs.step.turns_step.Goals as goal

pub returns-then-count-eq0 : goal.returns-then-count-eq0
returns-then-count-eq0 c = λ w.
    subst (λ (s : Step). IsQuietStep w c.args.outline.now.terms (task.Turns c.args.body c.args.count) (Some s)) (sym c.done.ensures)
    (turns_none_at w c.args.outline.now.terms c.args.body c.args.count (omega (arith, c.if-body-len.false, c.len.ensures)) c.if-count-eq0.true)

pub returns : goal.returns
returns c = λ w.
    subst (λ (s : Step). IsQuietStep w c.args.outline.now.terms (task.Turns c.args.body c.args.count) (Some s)) (sym c.both.ensures)
    (turns_first_at w c.args.outline.now.terms c.args.body c.args.count (omega (arith, c.if-body-len.false, c.len.ensures)) (omega (arith, c.if-count-eq0.false)))
