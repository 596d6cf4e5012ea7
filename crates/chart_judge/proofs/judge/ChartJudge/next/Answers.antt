use Rattle.std.proofs.Common.{◌≡◌, false, Result, Err, IfErr, rules, subst, sym}
use Rattle.log_judge.specs.Judged.{IsJudgeFault}
use Rattle.chart_judge.specs.Judging.{IsJudging}
use Rattle.log_judge.specs.declared.fault.JudgeFault.{JudgeFault}
use Rattle.log_judge.specs.declared.fault.JudgeFault.TheVariants.{NoMemory}
use Rattle.chart_judge.specs.declared.next.Next.{Next}
use Rattle.chart_judge.proofs.NextLabels.{next_on}
use Rattle.chart_judge.proofs.judge.ChartJudge.next.Goals as goal

pub returns-in_err-ended-clause-fault : goal.returns-in_err-ended-clause-fault
returns-in_err-ended-clause-fault c = λ table name form budget bytes j.
    let held = subst (IsJudging table name form budget bytes) (sym c.self.view_is) j in
    let failed : c.from_residual.result ≡ Err c.in_err-ended.field-0.0 = search rules in
    subst (λ (r : Result Next JudgeFault). IfErr r (IsJudgeFault form false bytes)) (sym failed) (c.in_err-ended.ensures.fault held.tables held.term form budget bytes held.fed)

pub returns-in_err-next-clause-fault : goal.returns-in_err-next-clause-fault
returns-in_err-next-clause-fault c = λ table name form budget bytes j.
    let failed : c.from_residual-in_err-next.result ≡ Err NoMemory = search rules in
    subst (λ (r : Result Next JudgeFault). IfErr r (IsJudgeFault form false bytes)) (sym failed) tt

pub returns-clause-next : goal.returns-clause-next
returns-clause-next c = λ table name form budget bytes j.
    let held = subst (IsJudging table name form budget bytes) (sym c.self.view_is) j in
    next_on c.verdicts_are_told.ensures c.beginnings_are_told.ensures c.label_lists_are_one.ensures table name form budget bytes c.self.inside.judge c.in_ok-next.next held
    (λ v x f. c.in_ok-next.ensures v x form budget bytes (c.in_ok-ended.ensures.taken v x form budget bytes f))
