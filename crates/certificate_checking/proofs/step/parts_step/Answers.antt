use Rattle.std.proofs.Common.{Some, sym, subst, arith}
use Rattle.certificates.specs.Lines.{PartsLine}
use Rattle.certificate_checking.specs.Tasks.{IsStepBy}
use Rattle.certificate_checking.specs.declared.step.Step.{Step}
use Rattle.certificate_checking.specs.declared.step.Task.TheVariants as task
use Rattle.certificate_checking.proofs.EachStep.{parts_at, parts_other}
use Rattle.certificate_checking.proofs.step.parts_step.Goals as goal

pub returns-then-joined-count : goal.returns-then-joined-count
returns-then-joined-count c = λ w.
    parts_other w c.args.outline.now.terms c.args.number c.args.count c.in-Some.joined.count c.in-Some.joined.is_beside c.term.result.now c.term.ensures c.in-Some.ensures.some (λ e. absurd (omega (arith, c.if-joined-count.true, e)))

pub returns-else-joined-count : goal.returns-else-joined-count
returns-else-joined-count c = λ w.
    subst (λ (s : Step). IsStepBy w c.args.outline.now.terms (task.Term c.args.number) (PartsLine c.args.count) (Some s)) (sym c.joined_step-step.ensures)
    (parts_at w c.args.outline.now.terms c.args.outline.now.firsts.items c.args.number c.first-first.result c.args.count c.in-Some.joined.count c.in-Some.joined.is_beside c.term.result.now c.requires.known c.first-first.ensures c.term.ensures c.in-Some.ensures.some c.if-joined-count.false)
