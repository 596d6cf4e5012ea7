use Rattle.std.proofs.Common.{refl, sym, subst}
use Rattle.chart_certificates.specs.Logging.{IsLogging}
use Rattle.chart_certificates.proofs.Logged.{logged}
use Rattle.chart_certificates.proofs.log.ChartLog.finish.Goals as goal

pub returns-in-Ok-clause-run : goal.returns-in-Ok-clause-run
returns-in-Ok-clause-run c = λ table name form bytes h.
    let held = subst (IsLogging table name form bytes) (sym c.self.view_is) h in
    logged table name form bytes _ _ refl refl (c.in-Ok.ensures.numbers c.self.inside.nets.value.labels form bytes held.fed) held

pub returns-in-Err-clause-fault : goal.returns-in-Err-clause-fault
returns-in-Err-clause-fault c = λ table name form bytes h.
    let held = subst (IsLogging table name form bytes) (sym c.self.view_is) h in
    c.in-Err.ensures.fault c.self.inside.nets.value.labels form bytes held.fed
