use Rattle.std.proofs.Common.{subst, sym}
use Rattle.chart_sessions.specs.Judging.{IsJudgingSessions}
use Rattle.chart_sessions.proofs.Judging.{told_sessions}
use Rattle.chart_sessions.proofs.sessions.ChartSessions.finish.Goals as goal

pub returns-clause-verdicts : goal.returns-clause-verdicts
returns-clause-verdicts c = λ table name form budget bytes j.
    told_sessions c.verdicts_are_told.ensures table name form budget bytes c.self.inside.sessions c.finish.result c.finish.ensures.verdicts (subst (IsJudgingSessions table name form budget bytes) (sym c.self.view_is) j)

pub returns-clause-fault : goal.returns-clause-fault
returns-clause-fault c = λ table name form budget bytes j.
    let held = subst (IsJudgingSessions table name form budget bytes) (sym c.self.view_is) j in
    c.finish.ensures.fault held.tables held.term form budget bytes held.fed
