use Rattle.std.proofs.Common.{Some, sym, subst, arith}
use Rattle.certificate_checking.specs.Tasks.{IsQuietStep}
use Rattle.certificate_checking.specs.declared.step.Step.{Step}
use Rattle.certificate_checking.specs.declared.step.Task.TheVariants as task
use Rattle.certificate_checking.proofs.QuietSteps.{row_none_at, row_first_at, row_past_at}
use Rattle.certificate_checking.proofs.step.row_step.Goals as goal

pub returns-then-count-eq0 : goal.returns-then-count-eq0
returns-then-count-eq0 c = λ w.
    subst (λ (s : Step). IsQuietStep w c.args.outline.now.terms (task.Row c.args.first c.args.count) (Some s)) (sym c.done.ensures) (row_none_at w c.args.outline.now.terms c.args.first c.args.count c.if-count-eq0.true)

pub returns-then-first-len : goal.returns-then-first-len
returns-then-first-len c = λ w. row_past_at w c.args.outline.now.terms c.args.first c.args.count (omega (arith, c.if-count-eq0.false)) (omega (arith, c.if-first-len.true, c.len.ensures))

pub returns : goal.returns
returns c = λ w.
    subst (λ (s : Step). IsQuietStep w c.args.outline.now.terms (task.Row c.args.first c.args.count) (Some s)) (sym c.both.ensures)
    (row_first_at w c.args.outline.now.terms c.args.first c.args.count (omega (arith, c.if-count-eq0.false)))
