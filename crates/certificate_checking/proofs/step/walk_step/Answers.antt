use Rattle.std.proofs.Common.{Some, sym, subst}
use Rattle.certificates.specs.Lines.{WalkLine}
use Rattle.certificate_checking.specs.Tasks.{IsStepBy}
use Rattle.certificate_checking.specs.declared.step.Step.{Step}
use Rattle.certificate_checking.specs.declared.step.Task.TheVariants as task
use Rattle.certificate_checking.proofs.EachStep.{walk_at}
use Rattle.certificate_checking.proofs.step.walk_step.Goals as goal

pub returns-in-Some : goal.returns-in-Some
returns-in-Some c = λ w unbegun.
    subst (λ (s : Step). IsStepBy w c.args.outline.now.terms (task.Term c.args.number) (WalkLine c.args.count) (Some s)) (sym c.to.ensures)
    (walk_at w c.args.outline.now.terms c.args.number c.args.count c.in-Some.net c.term.result.now unbegun c.term.ensures c.in-Some.ensures.some)
