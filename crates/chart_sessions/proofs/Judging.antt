-- What a judge of sessions by a chart was fed, and what it answers.
use Rattle.std.proofs.Common.{◌≡◌, ◌++◌, ℕ, Bool, true, false, List, [], Option, Some, None, Result, Ok, Err, IfOk, OnOk, sym}
use Rattle.msc_base.specs.declared.verdict.Verdict.{Verdict}
use Rattle.event_log.specs.RuledStates.{HoldsAt, IsGoing as IsReading}
use Rattle.event_log.specs.declared.event.LogFault.{LogFault}
use Rattle.event_log.specs.declared.event.LogForm.{LogForm}
use Rattle.session_log.specs.Sessions.{session_rules}
use Rattle.chart_term.specs.Terms.{Tree}
use Rattle.table_terms.specs.TableTerms.{IsTermOf}
use Rattle.term_tables.specs.NetValues.{NetsValue}
use Rattle.term_sets.specs.Memories.{PoolValue}
use Rattle.term_sets.specs.contracts.pool.PoolStore.TheImpl.{holds-value}
use Rattle.log_judge.specs.Judged.{fault_in}
use Rattle.log_judge.specs.declared.fault.JudgeFault.{JudgeFault}
use Rattle.msc_acceptance.specs.AcceptedCharts.{IsAcceptedTable}
use Rattle.msc_meaning.specs.Tables.{ChartEntry, Table, chart_at}
use Rattle.chart_judge.specs.ChartsTold.{VerdictsAreTold}
use Rattle.session_judge.specs.SessionEvents.{events_of}
use Rattle.session_judge.specs.SessionVerdicts.{AreJudged}
use Rattle.session_judge.specs.States.{SessionState, SessionsValue, Fed, IsGoing, Stands}
use Rattle.session_judge.specs.declared.verdict.SessionVerdict.{SessionVerdict}
use Rattle.chart_sessions.specs.Judging.{HasCounted, IsJudgingSessions}
use Rattle.chart_sessions.specs.SessionVerdicts.{IsSessionsOn}

-- ---- how many bytes were fed

reading : (form : LogForm) (bytes : List ℕ) (n : ℕ) (s : SessionState) (fault : Option LogFault) (finished : Bool) → fault ≡ None → finished ≡ false → HoldsAt session_rules fault finished form bytes n s → IsReading session_rules form bytes n s
reading form bytes n s None false e f h = h
reading form bytes n s None true e f h = cc
reading form bytes n s (Some x) finished e f h = cc

going : (v : NetsValue) (x : Tree) (form : LogForm) (budget : ℕ) (bytes : List ℕ) (judge : SessionsValue PoolValue) (fault : Option JudgeFault) → fault ≡ None → Stands holds-value.it fault v x form budget bytes judge → IsGoing holds-value.it v x form budget bytes judge
going v x form budget bytes judge None e h = h
going v x form budget bytes judge (Some fault) e h = cc

counted : (v : NetsValue) (x : Tree) (form : LogForm) (budget : ℕ) (bytes : List ℕ) (judge : SessionsValue PoolValue) → Fed holds-value.it v x form budget bytes judge → judge.fault ≡ None → HasCounted bytes judge
counted v x form budget bytes judge fed faultless =
    let g = going v x form budget bytes judge judge.fault faultless fed in
    let has = g.takes.has in
    let r = reading form bytes _ judge.reader judge.reader.fault judge.reader.finished has.faultless g.goes_on has.fed in
    record { count = r.count_is; within = r.within }

-- ---- a judge of sessions by a chart

pub judging : (table : Table) (name : List ℕ) (chart : ChartEntry) (form : LogForm) (budget : ℕ) (v : NetsValue) (x : Tree) (judge : SessionsValue PoolValue) → chart_at table name ≡ Some chart → IsAcceptedTable table → IsTermOf table name v x
    → Fed holds-value.it v x form budget [] judge → judge.fault ≡ None → IsJudgingSessions table name form budget [] judge
judging table name chart form budget v x judge is accepted made fed faultless = record {
  tables = v;
  term = x;
  has = record { chart = chart; is = is; made = made };
  accepted = accepted;
  fed = fed;
  faultless = faultless;
  counted = counted v x form budget [] judge fed faultless;
}

-- it takes a piece
pub fed_more : {T : Type 0} (table : Table) (name : List ℕ) (form : LogForm) (budget : ℕ) (bytes piece : List ℕ) (old new : SessionsValue PoolValue) (result : Result T JudgeFault) → fault_in result ≡ new.fault
    → ((v : NetsValue) (x : Tree) (form : LogForm) (budget : ℕ) (bytes : List ℕ) → Fed holds-value.it v x form budget bytes old → Fed holds-value.it v x form budget (bytes ++ piece) new) → IsJudgingSessions table name form budget bytes old
    → OnOk result (IsJudgingSessions table name form budget (bytes ++ piece) new)
fed_more table name form budget bytes piece old new (Ok t) fault goes j =
    let fed = goes j.tables j.term form budget bytes j.fed in
    let faultless : new.fault ≡ None = sym fault in
    record { tables = j.tables; term = j.term; has = j.has; accepted = j.accepted; fed = fed; faultless = faultless; counted = counted j.tables j.term form budget (bytes ++ piece) new fed faultless }
fed_more table name form budget bytes piece old new (Err e) fault goes j = tt

-- it ends
pub told_sessions : VerdictsAreTold → {E : Type 0} (table : Table) (name : List ℕ) (form : LogForm) (budget : ℕ) (bytes : List ℕ) (judge : SessionsValue PoolValue) (result : Result (List SessionVerdict) E)
    → ((v : NetsValue) (x : Tree) (form : LogForm) (budget : ℕ) (bytes : List ℕ) → Fed holds-value.it v x form budget bytes judge → IfOk result (AreJudged v x form budget bytes)) → IsJudgingSessions table name form budget bytes judge
    → IfOk result (IsSessionsOn table name form budget bytes)
told_sessions told table name form budget bytes judge (Ok answers) ends j =
    let judged = ends j.tables j.term form budget bytes j.fed in
    record {
      log = judged.log;
      keys = judged.verdicts.keys;
      each = λ a among. told table name j.has.chart j.tables j.term budget (events_of a.key judged.log.events) a.verdict j.has.is j.accepted j.has.made (judged.verdicts.each a among).verdict_is;
    }
told_sessions told table name form budget bytes judge (Err e) ends j = tt
