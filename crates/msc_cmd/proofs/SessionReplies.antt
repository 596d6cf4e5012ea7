-- The one outcome of a log of sessions.
use Rattle.std.proofs.Common.{◌≡◌, ◌∙◌, ℕ, List, [], ◌∷◌, map, sym, ap, ap₂, subst, false, Some, None, Option, Result, Ok, Err, IfOk, inl, inr, refl, ◌⊎◌}
use Rattle.outside.specs.Shelves.{Files}
use Rattle.msc_base.specs.Lists.{IsAmong}
use Rattle.msc_base.specs.Only.{Only}
use Rattle.msc_base.specs.declared.verdict.Verdict.{Verdict}
use Rattle.msc_meaning.specs.Tables.{Table}
use Rattle.event_log.specs.declared.event.LogFault.{LogFault}
use Rattle.session_log.specs.declared.keyed.KeyedEvent.{KeyedEvent}
use Rattle.session_judge.specs.SessionEvents.{events_of, keys_of}
use Rattle.session_judge.specs.declared.verdict.SessionVerdict.{SessionVerdict}
use Rattle.chart_judge.specs.ChartVerdicts.{IsChartVerdict}
use Rattle.judge_report.specs.Texts.{fault_line}
use Rattle.judge_report.specs.declared.fault.Fault.TheVariants.{Log}
use Rattle.entry_reading.specs.Consuming.{HasTakenEntry, IsRefusedEntry}
use Rattle.term_sets.specs.Memories.{PoolValue}
use Rattle.session_judge.specs.States.{SessionsValue}
use Rattle.msc_cmd.specs.LogJudging.{JudgeSetting}
use Rattle.msc_cmd.specs.Outcomes.{IsTheOne}
use Rattle.msc_cmd.specs.SessionJudging.{AreFed, AreJudged, AreRefused, IsJudgedEntry, IsToldOfSessions}
use Rattle.msc_cmd.specs.SessionOutcomes.{AreSessionVerdicts, SessionsAnswer, SessionsOutcome, bad_sessions, judged_sessions, sessions_list, worst_status}
use Rattle.msc_cmd.specs.declared.answer.Reply.{Reply}
use Rattle.msc_cmd.specs.declared.session_reading.FedSessions.{FedSessions}
use Rattle.msc_cmd.specs.declared.session_reading.SessionsJudged.{SessionsJudged}
use Rattle.msc_cmd.specs.declared.session_reading.SessionsJudged.TheVariants.{Told, Refused}

-- answers to the same keys, each of which is the only one to its key, are the same
same_answers : (P : List ℕ → Verdict → Type 0) (xs ys : List SessionVerdict) → map (λ (a : SessionVerdict). a.key) xs ≡ map (λ (a : SessionVerdict). a.key) ys → ((a : SessionVerdict) → IsAmong xs a → P a.key a.verdict)
    → ((a : SessionVerdict) → IsAmong ys a → Only (P a.key) a.verdict) → xs ≡ ys
same_answers P [] [] keys each only = refl
same_answers P [] (y ∷ ys) keys each only = cc
same_answers P (x ∷ xs) [] keys each only = cc
same_answers P (x ∷ xs) (y ∷ ys) keys each only =
    let key : x.key ≡ y.key = cc in
    let rest : map (λ (a : SessionVerdict). a.key) xs ≡ map (λ (a : SessionVerdict). a.key) ys = cc in
    let verdict : x.verdict ≡ y.verdict = (only y (inl refl)).alone x.verdict (subst (λ (k : List ℕ). P k x.verdict) key (each x (inl refl))) in
    ap₂ (λ (a : SessionVerdict) (rest : List SessionVerdict). a ∷ rest) (ap₂ (λ (k : List ℕ) (w : Verdict). record { key = k; verdict = w }) key verdict)
    (same_answers P xs ys rest (λ a h. each a (inr h)) (λ a h. only a (inr h)))

-- a log of sessions without a fault
pub sessions_one : (setting : JudgeSetting) (bytes : List ℕ) (answers : List SessionVerdict) (status : ℕ) (text : List ℕ) → AreJudged setting bytes (Told answers) → status ≡ worst_status answers → text ≡ sessions_list answers
    → IsTheOne (SessionsAnswer setting.form setting.budget setting.chart setting.table bytes) status text
sessions_one setting bytes answers status text v s t = record {
  is = judged_sessions v.log.events answers v.log.log (record { keys = v.keys; each = λ a h. (v.each a h).holds }) s t;
  only = λ other others o. by other others o;
}
  where
    by : (other : ℕ) (others : List ℕ) → SessionsOutcome setting.form setting.budget setting.table setting.chart bytes other others → (other ≡ status) × (others ≡ text)
    by other others (bad_sessions es fault l os ot) = let bad : Some fault ≡ None = (v.log.alone es (Some fault) l).1 in cc
    by other others (judged_sessions es found l verdicts os ot) =
        let events : es ≡ v.log.events = (v.log.alone es None l).0 in
        let here = subst (λ (us : List KeyedEvent). AreSessionVerdicts setting.table setting.chart setting.budget us found) events verdicts in
        let same : found ≡ answers = same_answers (λ key verdict. IsChartVerdict setting.table setting.chart setting.budget (events_of key v.log.events) verdict) found answers (here.keys ∙ sym v.keys) here.each v.each in
        (os ∙ ap worst_status same ∙ sym s, ot ∙ ap sessions_list same ∙ sym t)

-- one that has a fault
pub faulty_sessions_one : (setting : JudgeSetting) (bytes : List ℕ) (fault : LogFault) (status : ℕ) (text : List ℕ) → AreRefused setting.form bytes fault → status ≡ 5 → text ≡ fault_line false (Log fault)
    → IsTheOne (SessionsAnswer setting.form setting.budget setting.chart setting.table bytes) status text
faulty_sessions_one setting bytes fault status text refused s t = record { is = bad_sessions refused.1.events fault refused.1.log s t; only = λ other others o. by other others o }
  where
    by : (other : ℕ) (others : List ℕ) → SessionsOutcome setting.form setting.budget setting.table setting.chart bytes other others → (other ≡ status) × (others ≡ text)
    by other others (bad_sessions es g l os ot) =
        let found : Some g ≡ Some fault = (refused.1.alone es (Some g) l).1 in
        let same : g ≡ fault = cc in
        (os ∙ sym s, ot ∙ ap (λ (f : LogFault). fault_line false (Log f)) same ∙ sym t)
    by other others (judged_sessions es found l verdicts os ot) = let bad : None ≡ Some fault = (refused.1.alone es None l).1 in cc

-- the reply that tells a fault
pub faulty_sessions_told : {E : Type 0} (setting : JudgeSetting) (bytes : List ℕ) (fault : LogFault) (r : Result Reply E) → IfOk r (λ x. x.status ≡ 5) → IfOk r (λ x. x.text ≡ fault_line false (Log fault)) → AreRefused setting.form bytes fault
    → IfOk r (λ x. IsTheOne (SessionsAnswer setting.form setting.budget setting.chart setting.table bytes) x.status x.text)
faulty_sessions_told setting bytes fault (Ok x) s t refused = faulty_sessions_one setting bytes fault x.status x.text refused s t
faulty_sessions_told setting bytes fault (Err e) s t refused = tt

-- what takes a log of sessions has taken what its judge was fed
pub fed_sessions : (setting : JudgeSetting) (files : Option Files) (name : List ℕ) (fed : FedSessions) → HasTakenEntry (λ bytes (f : FedSessions). AreFed setting bytes f.sessions) files name fed → HasTakenEntry (AreFed setting) files name fed.sessions
fed_sessions setting files name fed h = record { bytes = h.bytes; held = h.held; taken = h.taken }

-- a log of sessions that was taken to its end, or to its first fault
pub sessions_end : (setting : JudgeSetting) (files : Option Files) (name : List ℕ) (judge : SessionsValue PoolValue) (judged : SessionsJudged) → ((bytes : List ℕ) → AreFed setting bytes judge → AreJudged setting bytes judged)
    → HasTakenEntry (AreFed setting) files name judge → IsJudgedEntry setting files name judged
sessions_end setting files name judge judged ends h = record { bytes = h.bytes; held = h.held; is = ends h.bytes h.taken }

pub sessions_refused : (setting : JudgeSetting) (files : Option Files) (name : List ℕ) (fault : LogFault) → IsRefusedEntry (AreRefused setting.form) files name fault → IsJudgedEntry setting files name (Refused fault)
sessions_refused setting files name fault h = record { bytes = h.bytes; held = h.held; is = h.refused }

-- what was judged has no want of memory for a fault
pub told_of_sessions : (setting : JudgeSetting) (bytes : List ℕ) (judged : SessionsJudged) → AreJudged setting bytes judged → IsToldOfSessions judged
told_of_sessions setting bytes (Told answers) h = tt
told_of_sessions setting bytes (Refused fault) h = h.0
