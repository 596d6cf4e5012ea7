use Rattle.std.proofs.Common.{subst, sym}
use Rattle.chart_judge.specs.Judging.{IsJudging}
use Rattle.chart_judge.proofs.Judging.{told_verdict}
use Rattle.chart_judge.proofs.judge.ChartJudge.finish.Goals as goal

pub returns-clause-verdict : goal.returns-clause-verdict
returns-clause-verdict c = λ table name form budget bytes j.
    told_verdict c.verdicts_are_told.ensures table name form budget bytes c.self.inside.judge c.finish.result c.finish.ensures.verdict (subst (IsJudging table name form budget bytes) (sym c.self.view_is) j)

pub returns-clause-fault : goal.returns-clause-fault
returns-clause-fault c = λ table name form budget bytes j.
    let held = subst (IsJudging table name form budget bytes) (sym c.self.view_is) j in
    c.finish.ensures.fault held.tables held.term form budget bytes held.fed
