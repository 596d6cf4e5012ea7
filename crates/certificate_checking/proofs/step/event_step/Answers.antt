use Rattle.std.proofs.Common.{Some, sym, subst}
use Rattle.certificates.specs.Lines.{EventLine}
use Rattle.certificate_checking.specs.Tasks.{IsStepBy}
use Rattle.certificate_checking.specs.declared.step.Step.{Step}
use Rattle.certificate_checking.specs.declared.step.Task.TheVariants as task
use Rattle.certificate_checking.proofs.EachStep.{event_at}
use Rattle.certificate_checking.proofs.step.event_step.Goals as goal

pub returns-in-Some : goal.returns-in-Some
returns-in-Some c = λ w.
    subst (λ (s : Step). IsStepBy w c.args.outline.now.terms (task.Term c.args.number) (EventLine c.args.place) (Some s)) (sym c.told.ensures)
    (event_at w c.args.outline.now.terms c.args.number c.args.place c.term.result.now c.in-Some.event c.term.ensures c.in-Some.ensures.some)
