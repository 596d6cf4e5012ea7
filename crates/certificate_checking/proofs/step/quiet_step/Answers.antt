use Rattle.std.proofs.Common.{Some, refl, sym, subst}
use Rattle.certificate_checking.specs.Tasks.{IsQuietStep}
use Rattle.pattern_marks.specs.declared.mark.Mark.TheVariants as mark
use Rattle.certificate_checking.specs.declared.step.Step.{Step}
use Rattle.certificate_checking.specs.declared.step.Task.{Task}
use Rattle.certificate_checking.specs.declared.step.Task.TheVariants as task
use Rattle.certificate_checking.proofs.QuietSteps.{others_step, mark_step}
use Rattle.certificate_checking.proofs.step.quiet_step.Goals as goal

pub returns-in-Row : goal.returns-in-Row
returns-in-Row c = λ e w. subst (λ (t : Task). IsQuietStep w c.args.outline.now.terms t c.row_step.result) (sym c.in-Row.is) (c.row_step.ensures w)

pub returns-in-Beside : goal.returns-in-Beside
returns-in-Beside c = λ e w. subst (λ (t : Task). IsQuietStep w c.args.outline.now.terms t c.beside_step.result) (sym c.in-Beside.is) (c.beside_step.ensures w)

pub returns-in-Others : goal.returns-in-Others
returns-in-Others c = λ e w.
    subst (λ (t : Task). IsQuietStep w c.args.outline.now.terms t (Some c.marked.result)) (sym c.in-Others.is)
    (subst (λ (s : Step). IsQuietStep w c.args.outline.now.terms (task.Others c.in-Others.first c.in-Others.count) (Some s)) (sym c.marked.ensures)
    (others_step w c.args.outline.now.terms c.in-Others.first c.in-Others.count mark.Next mark.Close refl refl))

pub returns-in-Turns : goal.returns-in-Turns
returns-in-Turns c = λ e w. subst (λ (t : Task). IsQuietStep w c.args.outline.now.terms t c.turns_step.result) (sym c.in-Turns.is) (c.turns_step.ensures w)

pub returns-in-Mark : goal.returns-in-Mark
returns-in-Mark c = λ e w.
    subst (λ (t : Task). IsQuietStep w c.args.outline.now.terms t (Some c.told.result)) (sym c.in-Mark.is)
    (subst (λ (s : Step). IsQuietStep w c.args.outline.now.terms (task.Mark c.in-Mark.mark) (Some s)) (sym c.told.ensures) (mark_step w c.args.outline.now.terms c.in-Mark.mark))
