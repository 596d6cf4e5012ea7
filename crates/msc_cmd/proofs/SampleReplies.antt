-- Replies to a request for a sample.
use Rattle.std.proofs.Common.{◌≡◌, ◌≤◌, ◌<◌, ◌∙◌, ℕ, Bool, true, false, List, ap, arith, refl, sym, subst, Option, Some, None, Result, Ok, Err, IfOk}
use Rattle.outside.specs.Shelves.{Files}
use Rattle.msc_base.specs.declared.limits.TheConstants.Limits.{BUDGET_DEFAULT}
use Rattle.msc_base.specs.declared.place.Place.{Place}
use Rattle.msc_base.specs.declared.verdict.Verdict.{Verdict}
use Rattle.msc_base.specs.declared.verdict.Verdict.TheVariants.{Conforms, Fails, Early, TooLarge}
use Rattle.msc_meaning.specs.Tables.{ChartEntry, Table, chart_at}
use Rattle.msc_rules.specs.declared.rule.Rule.{Rule}
use Rattle.line_events.specs.declared.event.LineEvent.{LineEvent}
use Rattle.event_log.specs.States.{IsFaultOf}
use Rattle.event_log.specs.declared.event.LogFault.{LogFault}
use Rattle.event_log.specs.declared.event.LogForm.{LogForm}
use Rattle.event_log.specs.declared.event.LogForm.TheVariants.{Lines}
use Rattle.chart_judge.specs.ChartVerdicts.{IsChartVerdict}
use Rattle.chart_judge.specs.Judging.{IsVerdictOn}
use Rattle.chart_judge.specs.LargestWeights.{IsLargestWeight, IsLargestOn, LargestIsTold}
use Rattle.judge_report.specs.declared.fault.Fault.TheVariants.{Document, NoChart}
use Rattle.judge_report.specs.SampleTexts.{sample_line}
use Rattle.judge_report.specs.Texts.{fault_line, verdict_line}
use Rattle.msc_cmd.specs.declared.answer.Reply.{Reply}
use Rattle.msc_requests.specs.declared.request.Request.{Request}
use Rattle.msc_requests.specs.declared.request.Request.TheVariants.{Sample}
use Rattle.msc_cmd.specs.declared.sample_log.Sampled.{Sampled}
use Rattle.msc_cmd.specs.declared.sample_log.Sampled.TheVariants.{Told, Refused}
use Rattle.msc_cmd.specs.Documents.{IsOnlyDocument, IsOnlyFault}
use Rattle.msc_cmd.specs.declared.log_reading.Wanted.TheVariants.{TheVerdict}
use Rattle.msc_cmd.specs.Outcomes.{LogOutcome, bad_log, judged, ChartOutcome, SampleLogOutcome, conforming, otherwise, SampleOutcome, unaccepted, of_sample, IfTold, IsTheOne, RequestOutcome}
use Rattle.msc_cmd.specs.VerdictStatuses.{status_of}
use Rattle.msc_cmd.specs.Samples.{sample_log, sample_name, sample_text, yes_count}
use Rattle.msc_cmd.specs.Sampling.{CanBeTold, IsSampled, IsToldSample, does_conform}
use Rattle.msc_cmd.proofs.LogOutcomes.{judged_one}
use Rattle.msc_cmd.proofs.Replies.{chart_one, no_chart_one}
use Rattle.msc_cmd.proofs.SampleLogs.{EndsLine, few_yeses, log_ends}

-- ---- the log

-- events have one largest weight
one_largest : (table : Table) (name : List ℕ) (events : List LineEvent) (n m : ℕ) → IsLargestWeight table name events n → IsLargestWeight table name events m → m ≡ n
one_largest table name events n m a b =
    let low = b.bound a.prefix a.back n a.are a.reached in
    let high = a.bound b.prefix b.back m b.are b.reached in
    omega (arith, low, high)

-- what the judge tells is the largest weight of the log
largest_of : LargestIsTold → (table : Table) (name : List ℕ) (form : LogForm) (budget : ℕ) (bytes : List ℕ) (count weight : ℕ) → EndsLine bytes → IsLargestOn table name form budget bytes weight
    → (v : IsVerdictOn table name form budget bytes (Conforms count)) → IsLargestWeight table name v.log.events weight
largest_of law table name form budget bytes count weight ends on v =
    subst (λ (bs : List ℕ). IsLargestOn table name form budget bs weight → (w : IsVerdictOn table name form budget bs (Conforms count)) → IsLargestWeight table name w.log.events weight) (sym ends.are)
    (λ o w. law table name form budget ends.before count weight o w) on v

-- the one outcome of a log that conforms
conforming_one : (turns seed : ℕ) (table : Table) (count largest : ℕ) (status : ℕ) (text : List ℕ) → (v : IsVerdictOn table sample_name Lines BUDGET_DEFAULT (sample_log turns seed) (Conforms count))
    → IsLargestWeight table sample_name v.log.events largest → status ≡ 0 → text ≡ sample_line turns (yes_count turns seed) largest → IsTheOne (SampleLogOutcome turns seed table) status text
conforming_one turns seed table count largest status text v l s t = record { is = conforming v.log.events count largest v.log.log v.is.holds l s t; only = λ other others o. by other others o }
  where
    log_one : IsTheOne (LogOutcome TheVerdict Lines BUDGET_DEFAULT false table sample_name (sample_log turns seed)) 0 (verdict_line false (Conforms count))
    log_one = judged_one Lines BUDGET_DEFAULT false table sample_name (sample_log turns seed) (Conforms count) 0 (verdict_line false (Conforms count)) v refl refl

    by : (other : ℕ) (others : List ℕ) → SampleLogOutcome turns seed table other others → (other ≡ status) × (others ≡ text)
    by other others (conforming es n m log w k os ot) =
        let same : m ≡ largest = one_largest table sample_name v.log.events largest m l (subst (λ (us : List LineEvent). IsLargestWeight table sample_name us m) (v.log.alone es None log).0 k) in
        (os ∙ sym s, ot ∙ ap (sample_line turns (yes_count turns seed)) same ∙ sym t)
    by other others (otherwise bad o) = absurd (bad (log_one.only other others o).0)

-- and of one that doesn't
otherwise_one : (turns seed : ℕ) (table : Table) (status : ℕ) (text : List ℕ) → (status ≡ 0 → ⊥) → IsTheOne (LogOutcome TheVerdict Lines BUDGET_DEFAULT false table sample_name (sample_log turns seed)) status text
    → IsTheOne (SampleLogOutcome turns seed table) status text
otherwise_one turns seed table status text fails one = record { is = otherwise fails one.is; only = λ other others o. by other others o }
  where
    by : (other : ℕ) (others : List ℕ) → SampleLogOutcome turns seed table other others → (other ≡ status) × (others ≡ text)
    by other others (conforming es n m log w k os ot) = absurd (fails (sym (one.only 0 (verdict_line false (Conforms n)) (judged es (Conforms n) log w (refl, refl))).0))
    by other others (otherwise bad o) = one.only other others o

-- the status of a log that doesn't conform
not_zero : (verdict : Verdict) → does_conform verdict ≡ false → status_of verdict ≡ 0 → ⊥
not_zero (Conforms events) d z = cc
not_zero (Fails event line) d z = omega (arith, z)
not_zero (Early events) d z = omega (arith, z)
not_zero (TooLarge event) d z = omega (arith, z)

other_status : (form : LogForm) (budget : ℕ) (json : Bool) (table : Table) (name bytes : List ℕ) (verdict : Verdict) (status : ℕ) (text : List ℕ) → IsVerdictOn table name form budget bytes verdict → does_conform verdict ≡ false
    → LogOutcome TheVerdict form budget json table name bytes status text → status ≡ 0 → ⊥
other_status form budget json table name bytes verdict status text v d (bad_log es fault l os ot) z = omega (arith, os, z)
other_status form budget json table name bytes verdict status text v d (judged es w l x told) z =
    let same : w ≡ verdict = v.is.alone w (subst (λ (us : List LineEvent). IsChartVerdict table name budget us w) (v.log.alone es None l).0 x) in
    not_zero verdict d (sym (told.0 ∙ ap status_of same) ∙ z)

fault_status : (form : LogForm) (budget : ℕ) (json : Bool) (table : Table) (name bytes : List ℕ) (fault : LogFault) (status : ℕ) (text : List ℕ) → IsFaultOf form false bytes (Some fault)
    → LogOutcome TheVerdict form budget json table name bytes status text → status ≡ 0 → ⊥
fault_status form budget json table name bytes fault status text f (bad_log es x l os ot) z = omega (arith, os, z)
fault_status form budget json table name bytes fault status text f (judged es w l x told) z = let bad : None ≡ Some fault = (f.alone es None l).1 in cc

-- ---- the replies to it

pub conforms_told : LargestIsTold → (turns seed : ℕ) (table : Table) (verdict : Verdict) (yeses largest : ℕ) (x : Reply) → 1 ≤ turns → does_conform verdict ≡ true → x.status ≡ 0 → x.text ≡ sample_line turns yeses largest
    → IsToldSample turns seed table verdict yeses largest → IsTheOne (SampleLogOutcome turns seed table) x.status x.text
conforms_told law turns seed table (Conforms count) yeses largest x some d s t h =
    conforming_one turns seed table count largest x.status x.text h.verdict_is (largest_of law table sample_name Lines BUDGET_DEFAULT (sample_log turns seed) count largest (log_ends turns seed some) h.largest_is h.verdict_is) s
    (t ∙ ap (λ (n : ℕ). sample_line turns n largest) h.yeses_are)
conforms_told law turns seed table (Fails event line) yeses largest x some d s t h = cc
conforms_told law turns seed table (Early events) yeses largest x some d s t h = cc
conforms_told law turns seed table (TooLarge event) yeses largest x some d s t h = cc

pub verdict_told : {E : Type 0} (turns seed : ℕ) (table : Table) (verdict : Verdict) (yeses largest : ℕ) (r : Result Reply E) → does_conform verdict ≡ false → IsToldSample turns seed table verdict yeses largest
    → IfOk r (λ x. IsTheOne (LogOutcome TheVerdict Lines BUDGET_DEFAULT false table sample_name (sample_log turns seed)) x.status x.text) → IfOk r (λ x. IsTheOne (SampleLogOutcome turns seed table) x.status x.text)
verdict_told turns seed table verdict yeses largest (Ok x) d h one =
    otherwise_one turns seed table x.status x.text (other_status Lines BUDGET_DEFAULT false table sample_name (sample_log turns seed) verdict x.status x.text h.verdict_is d one.is) one
verdict_told turns seed table verdict yeses largest (Err e) d h one = tt

pub refusal_told : {E : Type 0} (turns seed : ℕ) (table : Table) (fault : LogFault) (r : Result Reply E) → IsFaultOf Lines false (sample_log turns seed) (Some fault)
    → IfOk r (λ x. IsTheOne (LogOutcome TheVerdict Lines BUDGET_DEFAULT false table sample_name (sample_log turns seed)) x.status x.text) → IfOk r (λ x. IsTheOne (SampleLogOutcome turns seed table) x.status x.text)
refusal_told turns seed table fault (Ok x) f one =
    otherwise_one turns seed table x.status x.text (fault_status Lines BUDGET_DEFAULT false table sample_name (sample_log turns seed) fault x.status x.text f one.is) one
refusal_told turns seed table fault (Err e) f one = tt

-- what became of a sample can be told
pub can_be_told : (turns seed : ℕ) (table : Table) (sampled : Sampled) → IsSampled turns seed table sampled → CanBeTold turns sampled
can_be_told turns seed table (Told verdict yeses largest) h = let few = few_yeses turns seed in omega (arith, few, h.yeses_are)
can_be_told turns seed table (Refused fault) h = h.0

-- ---- the document

unaccepted_one : (turns seed : ℕ) (broken : Rule) (place : Place) (status : ℕ) (text : List ℕ) → IsOnlyFault sample_text broken place → status ≡ 4 → text ≡ fault_line false (Document broken place)
    → IsTheOne (SampleOutcome turns seed) status text
unaccepted_one turns seed broken place status text f s t = record { is = unaccepted broken place f.is s t; only = λ other others o. by other others o }
  where
    by : (other : ℕ) (others : List ℕ) → SampleOutcome turns seed other others → (other ≡ status) × (others ≡ text)
    by other others (unaccepted b p n os ot) =
        let e = f.only b p n in
        (os ∙ sym s, ot ∙ ap (λ (u : Rule). fault_line false (Document u p)) e.0 ∙ ap (λ (u : Place). fault_line false (Document broken u)) e.1 ∙ sym t)
    by other others (of_sample table d o) = absurd (f.none table d)

sample_one : (turns seed : ℕ) (table : Table) (status : ℕ) (text : List ℕ) → IsOnlyDocument sample_text table → IsTheOne (ChartOutcome false sample_name table (λ chart. SampleLogOutcome turns seed table)) status text
    → IsTheOne (SampleOutcome turns seed) status text
sample_one turns seed table status text d one = record { is = of_sample table d.is one.is; only = λ other others o. by other others o }
  where
    by : (other : ℕ) (others : List ℕ) → SampleOutcome turns seed other others → (other ≡ status) × (others ≡ text)
    by other others (unaccepted b p n os ot) = absurd (d.faultless b p n)
    by other others (of_sample held e o) =
        one.only other others (subst (λ (u : Table). ChartOutcome false sample_name u (λ chart. SampleLogOutcome turns seed u) other others) (d.only held e) o)

pub unaccepted_told : {E : Type 0} (turns seed : ℕ) (broken : Rule) (place : Place) (r : Result Reply E) → IsOnlyFault sample_text broken place → IfOk r (λ x. x.status ≡ 4) → IfOk r (λ x. x.text ≡ fault_line false (Document broken place))
    → IfOk r (λ x. IsTheOne (SampleOutcome turns seed) x.status x.text)
unaccepted_told turns seed broken place (Ok x) f s t = unaccepted_one turns seed broken place x.status x.text f s t
unaccepted_told turns seed broken place (Err e) f s t = tt

pub chartless_told : {E : Type 0} (turns seed : ℕ) (table : Table) (r : Result Reply E) → IsOnlyDocument sample_text table → chart_at table sample_name ≡ None → IfOk r (λ x. x.status ≡ 4) → IfOk r (λ x. x.text ≡ fault_line false NoChart)
    → IfOk r (λ x. IsTheOne (SampleOutcome turns seed) x.status x.text)
chartless_told turns seed table (Ok x) d lacks s t = sample_one turns seed table x.status x.text d (no_chart_one false sample_name table (λ chart. SampleLogOutcome turns seed table) x.status x.text lacks s t)
chartless_told turns seed table (Err e) d lacks s t = tt

pub sample_told : {E : Type 0} (turns seed : ℕ) (table : Table) (chart : ChartEntry) (r : Result Reply E) → IsOnlyDocument sample_text table → chart_at table sample_name ≡ Some chart
    → IfOk r (λ x. IsTheOne (SampleLogOutcome turns seed table) x.status x.text) → IfOk r (λ x. IsTheOne (SampleOutcome turns seed) x.status x.text)
sample_told turns seed table chart (Ok x) d named one = sample_one turns seed table x.status x.text d (chart_one false sample_name table (λ chart. SampleLogOutcome turns seed table) chart x.status x.text named one)
sample_told turns seed table chart (Err e) d named one = tt

-- ---- what is replied to a request

pub sample_small : {E : Type 0} (r : Result Reply E) → IfOk r (λ x. x.status < 7) → IfOk r (λ x. x.status ≤ 7)
sample_small (Ok x) s = omega (arith, s)
sample_small (Err e) s = tt

-- it never says that the shelf failed
pub sample_read : {E : Type 0} (P : Reply → Type 0) (r : Result Reply E) → IfOk r (λ x. x.status < 7) → IfOk r (λ x. x.status ≡ 7 → P x)
sample_read P (Ok x) s = λ seven. absurd (omega (arith, s, seven))
sample_read P (Err e) s = tt

pub sample_served : {E : Type 0} (files : Option Files) (turns seed : ℕ) (asked : Request) (r : Result Reply E) → asked ≡ Sample turns seed → IfOk r (λ x. IsTheOne (SampleOutcome turns seed) x.status x.text)
    → IfOk r (λ x. x.status < 7 → IfTold files (λ f. IsTheOne (RequestOutcome asked f) x.status x.text))
sample_served None turns seed asked (Ok x) is one = λ _. tt
sample_served (Some f) turns seed asked (Ok x) is one = λ _. subst (λ (q : Request). IsTheOne (RequestOutcome q f) x.status x.text) (sym is) one
sample_served None turns seed asked (Err e) is one = tt
sample_served (Some f) turns seed asked (Err e) is one = tt
