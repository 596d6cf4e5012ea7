-- What a judge of a chart was fed.
use Rattle.std.proofs.Common.{◌≡◌, ◌++◌, ℕ, Bool, true, false, List, [], Option, Some, None, Result, Ok, Err, IfOk, OnOk, sym}
use Rattle.msc_base.specs.declared.verdict.Verdict.{Verdict}
use Rattle.event_log.specs.States.{LogState, HoldsAt, IsGoing as IsReading}
use Rattle.event_log.specs.declared.event.LogFault.{LogFault}
use Rattle.event_log.specs.declared.event.LogForm.{LogForm}
use Rattle.chart_term.specs.Terms.{Tree}
use Rattle.table_terms.specs.TableTerms.{IsTermOf}
use Rattle.term_tables.specs.NetValues.{NetsValue}
use Rattle.log_judge.specs.Judged.{fault_in, IsJudged}
use Rattle.term_sets.specs.Memories.{PoolValue}
use Rattle.term_sets.specs.contracts.pool.PoolStore.TheImpl.{holds-value}
use Rattle.log_judge.specs.States.{JudgeValue, Fed, IsGoing, Stands}
use Rattle.log_judge.specs.declared.fault.JudgeFault.{JudgeFault}
use Rattle.msc_acceptance.specs.AcceptedCharts.{IsAcceptedTable}
use Rattle.msc_meaning.specs.Tables.{ChartEntry, Table, chart_at}
use Rattle.chart_judge.specs.ChartsTold.{VerdictsAreTold}
use Rattle.chart_judge.specs.Judging.{HasCounted, IsJudging, IsVerdictOn}

-- ---- how many bytes were fed

reading : (form : LogForm) (bytes : List ℕ) (n : ℕ) (s : LogState) (fault : Option LogFault) (finished : Bool) → fault ≡ None → finished ≡ false → HoldsAt fault finished form bytes n s → IsReading form bytes n s
reading form bytes n s None false e f h = h
reading form bytes n s None true e f h = cc
reading form bytes n s (Some x) finished e f h = cc

going : (v : NetsValue) (x : Tree) (form : LogForm) (budget : ℕ) (bytes : List ℕ) (judge : JudgeValue PoolValue) (fault : Option JudgeFault) → fault ≡ None → Stands holds-value.it fault v x form budget bytes judge → IsGoing holds-value.it v x form budget bytes judge
going v x form budget bytes judge None e h = h
going v x form budget bytes judge (Some fault) e h = cc

counted : (v : NetsValue) (x : Tree) (form : LogForm) (budget : ℕ) (bytes : List ℕ) (judge : JudgeValue PoolValue) → Fed holds-value.it v x form budget bytes judge → judge.fault ≡ None → HasCounted bytes judge
counted v x form budget bytes judge fed faultless =
    let g = going v x form budget bytes judge judge.fault faultless fed in
    let has = g.takes.has in
    let r = reading form bytes _ judge.reader judge.reader.fault judge.reader.finished has.faultless g.goes_on has.fed in
    record { count = r.count_is; within = r.within }

-- ---- a judge of a chart

pub judging : (table : Table) (name : List ℕ) (chart : ChartEntry) (form : LogForm) (budget : ℕ) (v : NetsValue) (x : Tree) (judge : JudgeValue PoolValue) → chart_at table name ≡ Some chart → IsAcceptedTable table → IsTermOf table name v x → Fed holds-value.it v x form budget [] judge → judge.fault ≡ None
    → IsJudging table name form budget [] judge
judging table name chart form budget v x judge is accepted made fed faultless = record {
  tables = v;
  term = x;
  has = record { chart = chart; is = is; made = made };
  accepted = accepted;
  fed = fed;
  faultless = faultless;
  counted = counted v x form budget [] judge fed faultless;
}

-- it takes a piece
pub fed_more : {T : Type 0} (table : Table) (name : List ℕ) (form : LogForm) (budget : ℕ) (bytes piece : List ℕ) (old new : JudgeValue PoolValue) (result : Result T JudgeFault) → fault_in result ≡ new.fault
    → ((v : NetsValue) (x : Tree) (form : LogForm) (budget : ℕ) (bytes : List ℕ) → Fed holds-value.it v x form budget bytes old → Fed holds-value.it v x form budget (bytes ++ piece) new) → IsJudging table name form budget bytes old
    → OnOk result (IsJudging table name form budget (bytes ++ piece) new)
fed_more table name form budget bytes piece old new (Ok t) fault goes j =
    let fed = goes j.tables j.term form budget bytes j.fed in
    let faultless : new.fault ≡ None = sym fault in
    record { tables = j.tables; term = j.term; has = j.has; accepted = j.accepted; fed = fed; faultless = faultless; counted = counted j.tables j.term form budget (bytes ++ piece) new fed faultless }
fed_more table name form budget bytes piece old new (Err e) fault goes j = tt

-- it ends
pub told_verdict : VerdictsAreTold → {E : Type 0} (table : Table) (name : List ℕ) (form : LogForm) (budget : ℕ) (bytes : List ℕ) (judge : JudgeValue PoolValue) (result : Result Verdict E)
    → ((v : NetsValue) (x : Tree) (form : LogForm) (budget : ℕ) (bytes : List ℕ) → Fed holds-value.it v x form budget bytes judge → IfOk result (IsJudged v x form budget bytes)) → IsJudging table name form budget bytes judge
    → IfOk result (IsVerdictOn table name form budget bytes)
told_verdict told table name form budget bytes judge (Ok verdict) ends j =
    let judged = ends j.tables j.term form budget bytes j.fed in
    record { log = judged.log; is = told table name j.has.chart j.tables j.term budget judged.log.events verdict j.has.is j.accepted j.has.made judged.verdict_is }
told_verdict told table name form budget bytes judge (Err e) ends j = tt
