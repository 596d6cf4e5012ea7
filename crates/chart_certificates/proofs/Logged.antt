-- What a log that is read for a certificate's sake was fed.
use Rattle.std.proofs.Common.{◌≡◌, ◌++◌, ℕ, Bool, true, false, List, Option, Some, None, Result, Ok, Err, OnOk, sym, subst}
use Rattle.msc_base.specs.declared.label.Label.{Label}
use Rattle.event_log.specs.States.{LogState, HoldsAt, IsGoing as IsReading}
use Rattle.event_log.specs.declared.event.LogFault.{LogFault}
use Rattle.event_log.specs.declared.event.LogForm.{LogForm}
use Rattle.chart_term.specs.Terms.{Tree}
use Rattle.term_tables.specs.NetValues.{NetsValue}
use Rattle.log_judge.specs.Judged.{fault_in}
use Rattle.log_judge.specs.declared.fault.JudgeFault.{JudgeFault}
use Rattle.msc_acceptance.specs.AcceptedCharts.{IsAcceptedTable}
use Rattle.msc_meaning.specs.Tables.{Table}
use Rattle.chart_judge.specs.ChartVerdicts.{HasTerm}
use Rattle.numbered_log.specs.Numbers.{numbers_in}
use Rattle.numbered_log.specs.States.{Fed, IsGoing, Stands, TakesLog}
use Rattle.chart_certificates.specs.Logging.{ChartLogValue, ChartRunValue, IsLogged, IsLogging}

reading : (form : LogForm) (bytes : List ℕ) (n : ℕ) (s : LogState) (fault : Option LogFault) (finished : Bool) → fault ≡ None → finished ≡ false → HoldsAt fault finished form bytes n s → IsReading form bytes n s
reading form bytes n s None false e f h = h
reading form bytes n s None true e f h = cc
reading form bytes n s (Some x) finished e f h = cc

pub logging : (table : Table) (name : List ℕ) (form : LogForm) (bytes : List ℕ) (l : ChartLogValue) → HasTerm table name l.nets l.term → IsAcceptedTable table → Fed l.nets.labels form bytes l.log → l.log.fault ≡ None → IsLogging table name form bytes l
logging table name form bytes l has accepted fed faultless =
    let g : IsGoing l.nets.labels form bytes l.log = subst (λ (o : Option JudgeFault). Stands o l.nets.labels form bytes l.log) faultless fed in
    let taken = g.takes.has in
    let r = reading form bytes _ l.log.reader l.log.reader.fault l.log.reader.finished taken.faultless g.goes_on taken.fed in
    record { has = has; accepted = accepted; fed = fed; faultless = faultless; count = r.count_is; within = r.within }

-- it takes a piece
pub logging_more : {T : Type 0} (table : Table) (name : List ℕ) (form : LogForm) (bytes piece : List ℕ) (old new : ChartLogValue) (result : Result T JudgeFault) → fault_in result ≡ new.log.fault → new.nets ≡ old.nets → new.term ≡ old.term
    → ((table : List Label) (form : LogForm) (bytes : List ℕ) → Fed table form bytes old.log → Fed table form (bytes ++ piece) new.log) → IsLogging table name form bytes old → OnOk result (IsLogging table name form (bytes ++ piece) new)
logging_more table name form bytes piece old new (Ok t) fault nets term goes h =
    logging table name form (bytes ++ piece) new
    (subst (λ (v : NetsValue). HasTerm table name v new.term) (sym nets) (subst (λ (y : Tree). HasTerm table name old.nets y) (sym term) h.has)) h.accepted
    (subst (λ (v : NetsValue). Fed v.labels form (bytes ++ piece) new.log) (sym nets) (goes old.nets.labels form bytes h.fed)) (sym fault)
logging_more table name form bytes piece old new (Err e) fault nets term goes h = tt

-- it ends
pub logged : (table : Table) (name : List ℕ) (form : LogForm) (bytes : List ℕ) (l : ChartLogValue) (r : ChartRunValue) → r.nets ≡ l.nets → r.term ≡ l.term → TakesLog l.nets.labels form bytes r.numbers → IsLogging table name form bytes l → IsLogged table name form bytes r
logged table name form bytes l r nets term takes h = record {
  log = takes.log;
  run = record {
    has = subst (λ (v : NetsValue). HasTerm table name v r.term) (sym nets) (subst (λ (y : Tree). HasTerm table name l.nets y) (sym term) h.has);
    accepted = h.accepted;
    numbers = subst (λ (v : NetsValue). r.numbers ≡ numbers_in v.labels takes.log.events) (sym nets) takes.taken;
  };
}
