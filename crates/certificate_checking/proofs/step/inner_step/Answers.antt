use Rattle.std.proofs.Common.{◌≡◌, true, Some, sym, subst}
use Rattle.certificates.specs.Lines.{InnerLine}
use Rattle.certificate_checking.specs.Tasks.{IsStepBy}
use Rattle.certificate_checking.specs.declared.step.Step.{Step}
use Rattle.certificate_checking.specs.declared.step.Task.TheVariants as task
use Rattle.certificate_checking.proofs.EachStep.{inner_at}
use Rattle.certificate_checking.proofs.step.inner_step.Goals as goal

pub returns : goal.returns
returns c = λ w.
    let is : c.is_tie.result ≡ true = cc in
    subst (λ (s : Step). IsStepBy w c.args.outline.now.terms (task.Term c.args.number) InnerLine (Some s)) (sym c.marked.ensures)
    (inner_at w c.args.outline.now.terms c.args.outline.now.firsts.items c.args.number c.first.result c.term.result.now c.requires.known c.first.ensures c.term.ensures (c.is_tie.ensures.is is))
