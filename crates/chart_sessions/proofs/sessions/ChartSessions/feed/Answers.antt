use Rattle.std.proofs.Common.{subst, sym}
use Rattle.chart_sessions.specs.Judging.{IsJudgingSessions}
use Rattle.chart_sessions.proofs.Judging.{fed_more}
use Rattle.chart_sessions.proofs.sessions.ChartSessions.feed.Goals as goal

pub returns-clause-fed : goal.returns-clause-fed
returns-clause-fed c = λ table name form budget bytes j.
    fed_more table name form budget bytes c.args.piece.now c.self.inside.sessions c.feed.new.self c.feed.result c.feed.ensures.fault c.feed.ensures.fed (subst (IsJudgingSessions table name form budget bytes) (sym c.self.view_is) j)

pub returns-clause-refused : goal.returns-clause-refused
returns-clause-refused c = λ table name form budget bytes j.
    let held = subst (IsJudgingSessions table name form budget bytes) (sym c.self.view_is) j in
    c.feed.ensures.lasts held.tables held.term form budget bytes held.fed
