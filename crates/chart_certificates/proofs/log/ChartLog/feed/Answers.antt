use Rattle.std.proofs.Common.{sym, subst}
use Rattle.chart_certificates.specs.Logging.{IsLogging}
use Rattle.chart_certificates.proofs.log.ChartLog.feed.Goals as goal

pub returns-clause-refused : goal.returns-clause-refused
returns-clause-refused c = λ table name form bytes h.
    let held = subst (IsLogging table name form bytes) (sym c.self.view_is) h in
    c.feed.ensures.lasts c.self.inside.nets.value.labels form bytes held.fed
