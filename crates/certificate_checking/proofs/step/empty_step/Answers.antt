use Rattle.std.proofs.Common.{◌∙◌, Some, sym, subst, arith}
use Rattle.certificates.specs.Lines.{EmptyLine}
use Rattle.chart_term.specs.Tables.{terms_over}
use Rattle.list_facts.proofs.Reading.{some_at}
use Rattle.certificate_checking.specs.Tasks.{IsStepBy}
use Rattle.certificate_checking.specs.declared.step.Step.{Step}
use Rattle.certificate_checking.specs.declared.step.Task.TheVariants as task
use Rattle.certificate_checking.proofs.EachStep.{empty_at, empty_none}
use Rattle.certificate_checking.proofs.step.empty_step.Goals as goal

pub returns-then-answer_at : goal.returns-then-answer_at
returns-then-answer_at c = λ w sure.
    let ts = c.args.outline.now.terms in
    let (x, at) = some_at ts c.args.number c.requires.number in
    subst (λ (s : Step). IsStepBy (terms_over w) ts (task.Term c.args.number) EmptyLine (Some s)) (sym c.done.ensures)
    (empty_at w ts c.args.answers.now c.args.number x at (sure.told c.args.number x (omega arith) at) (sym c.answer_at.ensures ∙ c.if-answer_at.true))

pub returns : goal.returns
returns c = λ w sure.
    let ts = c.args.outline.now.terms in
    let (x, at) = some_at ts c.args.number c.requires.number in
    empty_none w ts c.args.answers.now c.args.number x at (sure.told c.args.number x (omega arith) at) (sym c.answer_at.ensures ∙ c.if-answer_at.false)
