use Rattle.std.proofs.Common.{sym, subst}
use Rattle.chart_term.specs.Tables.{terms_over}
use Rattle.certificate_texts.specs.Texts.{line_of}
use Rattle.certificate_checking.specs.Tasks.{IsStepBy}
use Rattle.certificate_texts.specs.declared.line.CertificateLine.{CertificateLine}
use Rattle.certificate_checking.specs.declared.step.Task.TheVariants as task
use Rattle.certificate_checking.proofs.step.term_step.Goals as goal

pub returns-in-Empty : goal.returns-in-Empty
returns-in-Empty c = λ w sure. subst (λ (l : CertificateLine). IsStepBy (terms_over w) c.args.outline.now.terms (task.Term c.args.number) (line_of l) c.empty_step.result) (sym c.in-Empty.is) (c.empty_step.ensures w sure)

pub returns-in-Event : goal.returns-in-Event
returns-in-Event c = λ w sure. subst (λ (l : CertificateLine). IsStepBy (terms_over w) c.args.outline.now.terms (task.Term c.args.number) (line_of l) c.event_step.result) (sym c.in-Event.is) (c.event_step.ensures (terms_over w))

pub returns-in-Parts : goal.returns-in-Parts
returns-in-Parts c = λ w sure. subst (λ (l : CertificateLine). IsStepBy (terms_over w) c.args.outline.now.terms (task.Term c.args.number) (line_of l) c.parts_step.result) (sym c.in-Parts.is) (c.parts_step.ensures (terms_over w))

pub returns-in-Branch : goal.returns-in-Branch
returns-in-Branch c = λ w sure. subst (λ (l : CertificateLine). IsStepBy (terms_over w) c.args.outline.now.terms (task.Term c.args.number) (line_of l) c.branch_step.result) (sym c.in-Branch.is) (c.branch_step.ensures (terms_over w))

pub returns-in-Inner : goal.returns-in-Inner
returns-in-Inner c = λ w sure. subst (λ (l : CertificateLine). IsStepBy (terms_over w) c.args.outline.now.terms (task.Term c.args.number) (line_of l) c.inner_step.result) (sym c.in-Inner.is) (c.inner_step.ensures (terms_over w))

pub returns-in-Turns : goal.returns-in-Turns
returns-in-Turns c = λ w sure. subst (λ (l : CertificateLine). IsStepBy (terms_over w) c.args.outline.now.terms (task.Term c.args.number) (line_of l) c.loop_step.result) (sym c.in-Turns.is) (c.loop_step.ensures w sure)

pub returns-in-Walk : goal.returns-in-Walk
returns-in-Walk c = λ w sure. subst (λ (l : CertificateLine). IsStepBy (terms_over w) c.args.outline.now.terms (task.Term c.args.number) (line_of l) c.walk_step.result) (sym c.in-Walk.is) (c.walk_step.ensures (terms_over w) sure.outline.outlined.unbegun)
