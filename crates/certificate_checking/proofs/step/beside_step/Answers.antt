use Rattle.std.proofs.Common.{Some, refl, sym, subst, arith}
use Rattle.certificate_checking.specs.Tasks.{IsQuietStep}
use Rattle.pattern_marks.specs.declared.mark.Mark.TheVariants as mark
use Rattle.certificate_checking.specs.declared.step.Step.{Step}
use Rattle.certificate_checking.specs.declared.step.Task.TheVariants as task
use Rattle.certificate_checking.proofs.QuietSteps.{beside_none_at, beside_first_at, beside_past_at}
use Rattle.certificate_checking.proofs.step.beside_step.Goals as goal

pub returns-then-count-eq0 : goal.returns-then-count-eq0
returns-then-count-eq0 c = λ w.
    subst (λ (s : Step). IsQuietStep w c.args.outline.now.terms (task.Beside c.args.first c.args.count) (Some s)) (sym c.done.ensures) (beside_none_at w c.args.outline.now.terms c.args.first c.args.count c.if-count-eq0.true)

pub returns-then-first-len : goal.returns-then-first-len
returns-then-first-len c = λ w. beside_past_at w c.args.outline.now.terms c.args.first c.args.count (omega (arith, c.if-count-eq0.false)) (omega (arith, c.if-first-len.true, c.len.ensures))

pub returns : goal.returns
returns c = λ w.
    subst (λ (s : Step). IsQuietStep w c.args.outline.now.terms (task.Beside c.args.first c.args.count) (Some s)) (sym c.marked.ensures)
    (beside_first_at w c.args.outline.now.terms c.args.first c.args.count mark.Open refl (omega (arith, c.if-count-eq0.false)))
