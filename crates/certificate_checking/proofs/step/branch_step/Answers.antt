use Rattle.std.proofs.Common.{Some, None, inr, sym, subst, arith}
use Rattle.certificates.specs.Lines.{BranchLine}
use Rattle.certificate_checking.specs.Tasks.{IsStepBy}
use Rattle.certificate_checking.specs.declared.step.Step.{Step}
use Rattle.certificate_checking.specs.declared.step.Task.TheVariants as task
use Rattle.std.proofs.Common.{ℕ}
use Rattle.certificate_checking.proofs.EachStep.{branch_at, branch_past, branch_within}
use Rattle.certificate_checking.proofs.step.branch_step.Goals as goal

pub returns-then-index-count : goal.returns-then-index-count
returns-then-index-count c = λ w. branch_past w c.args.outline.now.terms c.args.number c.args.index c.in-Some.count c.term.result.now c.term.ensures c.in-Some.ensures.some (inr (omega (arith, c.if-index-count.true)))

pub part_of-part-requires : goal.part_of-part-requires
part_of-part-requires c =
    let l = branch_within c.args.outline.now.terms c.args.outline.now.firsts.items c.args.number c.first-first.result c.args.index c.in-Some.count c.term.result.now c.requires.known c.first-first.ensures c.term.ensures c.in-Some.ensures.some (omega (arith, c.if-index-eq0.false)) (omega (arith, c.if-index-count.false)) in
    omega (arith, l, c.len-size.ensures)

pub returns-else-index-count : goal.returns-else-index-count
returns-else-index-count c = λ w.
    subst (λ (s : Step). IsStepBy w c.args.outline.now.terms (task.Term c.args.number) (BranchLine c.args.index) (Some s)) (sym c.to.ensures)
    (subst (λ (k : ℕ). IsStepBy w c.args.outline.now.terms (task.Term c.args.number) (BranchLine c.args.index) (Some (record { mark = None; first = Some (task.Term k); then = None }))) (sym c.part_of-part.ensures)
    (branch_at w c.args.outline.now.terms c.args.outline.now.firsts.items c.args.number c.first-first.result c.args.index c.in-Some.count c.term.result.now c.requires.known c.first-first.ensures c.term.ensures c.in-Some.ensures.some (omega (arith, c.if-index-eq0.false)) (omega (arith, c.if-index-count.false))))
