use Rattle.std.proofs.Common.{◌≡◌, ◌∙◌, true, false, IsTrue, Some, rules, sym, subst}
use Rattle.certificates.specs.Lines.{TurnsLine}
use Rattle.chart_term.specs.Tables.{terms_over}
use Rattle.certificate_checking.specs.Tasks.{IsStepBy}
use Rattle.certificate_checking.specs.declared.step.Step.{Step}
use Rattle.certificate_checking.specs.declared.step.Task.TheVariants as task
use Rattle.certificate_checking.proofs.EachStep.{turns_at, turns_past}
use Rattle.certificate_checking.proofs.step.loop_step.Goals as goal

no : {A : Type 0} → false ≡ true → A
no e = cc

pub returns-then-not-is_up_to : goal.returns-then-not-is_up_to
returns-then-not-is_up_to c = λ w sure.
    let e : c.is_up_to.result ≡ false = search rules in
    turns_past w c.args.outline.now.terms c.args.answers.now c.args.outline.now.firsts.items c.args.number c.first-body.result c.args.count c.in-Some.counts.lower c.in-Some.counts.upper c.term.result.now
    sure.outline.outlined.known c.first-body.ensures c.term.ensures c.in-Some.ensures.some sure.told (λ up many. no (sym e ∙ c.is_up_to.ensures.1 up))

pub returns-then-not-are_enough : goal.returns-then-not-are_enough
returns-then-not-are_enough c = λ w sure.
    let e : c.are_enough.result ≡ false = search rules in
    turns_past w c.args.outline.now.terms c.args.answers.now c.args.outline.now.firsts.items c.args.number c.first-body.result c.args.count c.in-Some.counts.lower c.in-Some.counts.upper c.term.result.now
    sure.outline.outlined.known c.first-body.ensures c.term.ensures c.in-Some.ensures.some sure.told (λ up many. no (sym e ∙ c.are_enough.ensures.1 many))

pub returns-else-not-are_enough : goal.returns-else-not-are_enough
returns-else-not-are_enough c = λ w sure.
    let up : IsTrue c.is_up_to.result = search rules in
    let many : IsTrue c.are_enough.result = search rules in
    subst (λ (s : Step). IsStepBy (terms_over w) c.args.outline.now.terms (task.Term c.args.number) (TurnsLine c.args.count) (Some s)) (sym c.to.ensures)
    (turns_at w c.args.outline.now.terms c.args.answers.now c.args.outline.now.firsts.items c.args.number c.first-body.result c.args.count c.in-Some.counts.lower c.in-Some.counts.upper c.term.result.now
    sure.outline.outlined.known c.first-body.ensures c.term.ensures sure.outline.outlined.unbegun c.in-Some.ensures.some sure.told (c.is_up_to.ensures.0 up) (c.are_enough.ensures.0 many))
