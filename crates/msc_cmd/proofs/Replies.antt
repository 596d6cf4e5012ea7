-- Replies to what the shelf gave.
use Rattle.std.proofs.Common.{◌≡◌, ◌<◌, ◌≤◌, ◌⊎◌, inl, inr, Bool, false, ℕ, List, arith, sym, ap, ◌∙◌, subst, Option, Some, None, Result, Ok, Err, IfOk, zero, suc, length}
use Rattle.std.specs.Io.KnownBytes.{Appends}
use Rattle.outside.specs.Shelves.{Files}
use Rattle.msc_base.specs.declared.place.Place.{Place}
use Rattle.msc_base.specs.declared.verdict.Verdict.{Verdict}
use Rattle.msc_rules.specs.declared.rule.Rule.{Rule}
use Rattle.msc_meaning.specs.Tables.{ChartEntry, Table, chart_at}
use Rattle.msc_cmd.specs.declared.answer.Reply.{Reply}
use Rattle.event_log.specs.declared.event.LogFault.{LogFault}
use Rattle.event_log.specs.declared.event.LogForm.{LogForm}
use Rattle.msc_requests.specs.declared.request.Request.{Request}
use Rattle.msc_requests.specs.Requests.{request_of, IsNoRequest}
use Rattle.judge_report.specs.declared.fault.Fault.TheVariants.{Document, Log, LogRead, NoChart, Usage}
use Rattle.judge_report.specs.Texts.{accepted_line, fault_line}
use Rattle.judge_report.specs.Writing.{AppendsPart}
use Rattle.msc_cmd.specs.Documents.{IsDocument, HasDocumentFault, IsOnlyDocument, IsOnlyFault}
use Rattle.entry_reading.specs.Reading.{IsHeld}
use Rattle.msc_cmd.specs.LogJudging.{IsJudged, IsNextReply, IsToldLog, IsWanted}
use Rattle.chart_judge.specs.declared.next.Next as chart
use Rattle.msc_cmd.specs.declared.log_reading.Wanted.{Wanted}
use Rattle.msc_cmd.specs.declared.log_reading.Wanted.TheVariants.{TheVerdict, NextLabels}
use Rattle.msc_cmd.specs.declared.log_reading.Judged.{Judged}
use Rattle.msc_cmd.specs.declared.log_reading.Judged.TheVariants.{Refused}
use Rattle.msc_cmd.specs.declared.log_reading.Judged.TheVariants as log
use Rattle.msc_cmd.specs.Outcomes.{LogOutcome, EntryOutcome, DocumentOutcome, refused, of_charts, ChartOutcome, no_chart, of_chart, Says, CheckAnswer, JudgeAnswer, FilesOutcome, IfTold, IsTheOne, IsOfOutcome, RequestOutcome, IsOutcome, TellsVerdict, no_request, of_request}
use Rattle.msc_cmd.specs.Failures.{FailedAt, HasChart, CannotRead, CannotJudge, CannotServe}
use Rattle.msc_cmd.specs.Openings.{IsOpened}
use Rattle.msc_cmd.specs.declared.opening.Opened.TheVariants.{Told}
use Rattle.msc_cmd.proofs.LogOutcomes.{one_entry, entry_one, faulty_one, judged_one, next_one}

-- the one outcome where the document is refused, whatever is answered of its charts
refused_one : (json : Bool) (files : Files) (document bytes : List ℕ) (Answer : Table → ℕ → List ℕ → Type 0) (broken : Rule) (place : Place) (status : ℕ) (text : List ℕ) → files document ≡ Some bytes → IsOnlyFault bytes broken place → status ≡ 4
    → text ≡ fault_line json (Document broken place) → IsTheOne (DocumentOutcome json files document Answer) status text
refused_one json files document bytes Answer broken place status text held f s t = record { is = refused bytes broken place held f.is s t; only = λ other others o. by other others o }
  where
    by : (other : ℕ) (others : List ℕ) → DocumentOutcome json files document Answer other others → (other ≡ status) × (others ≡ text)
    by other others (refused bs b p h n os ot) =
        let e = f.only b p (subst (λ us. HasDocumentFault us b p) (one_entry files document bytes bs held h) n) in
        (os ∙ sym s, ot ∙ ap (λ (u : Rule). fault_line json (Document u p)) e.0 ∙ ap (λ (u : Place). fault_line json (Document broken u)) e.1 ∙ sym t)
    by other others (of_charts bs charts h d o) = absurd (f.none charts (subst (λ us. IsDocument us charts) (one_entry files document bytes bs held h) d))

-- the charts of a document that is held
held_charts : (files : Files) (document bytes bs : List ℕ) (charts others : Table) → files document ≡ Some bytes → IsOnlyDocument bytes charts → files document ≡ Some bs → IsDocument bs others → others ≡ charts
held_charts files document bytes bs charts others held d h o = d.only others (subst (λ us. IsDocument us others) (one_entry files document bytes bs held h) o)

-- the one outcome where it is accepted is the one answer for its charts
charts_one : (json : Bool) (files : Files) (document bytes : List ℕ) (Answer : Table → ℕ → List ℕ → Type 0) (charts : Table) (status : ℕ) (text : List ℕ) → files document ≡ Some bytes → IsOnlyDocument bytes charts
    → IsTheOne (Answer charts) status text → IsTheOne (DocumentOutcome json files document Answer) status text
charts_one json files document bytes Answer charts status text held d one = record { is = of_charts bytes charts held d.is one.is; only = λ other others o. by other others o }
  where
    by : (other : ℕ) (others : List ℕ) → DocumentOutcome json files document Answer other others → (other ≡ status) × (others ≡ text)
    by other others (refused bs b p h n os ot) = absurd (d.faultless b p (subst (λ us. HasDocumentFault us b p) (one_entry files document bytes bs held h) n))
    by other others (of_charts bs cs h e o) = one.only other others (subst (λ (us : Table). Answer us other others) (held_charts files document bytes bs charts cs held d h e) o)

-- the one outcome where the document lacks the chart
pub no_chart_one : (json : Bool) (name : List ℕ) (charts : Table) (Answer : ChartEntry → ℕ → List ℕ → Type 0) (status : ℕ) (text : List ℕ) → chart_at charts name ≡ None → status ≡ 4 → text ≡ fault_line json NoChart
    → IsTheOne (ChartOutcome json name charts Answer) status text
no_chart_one json name charts Answer status text lacks s t = record { is = no_chart lacks s t; only = λ other others o. by other others o }
  where
    by : (other : ℕ) (others : List ℕ) → ChartOutcome json name charts Answer other others → (other ≡ status) × (others ≡ text)
    by other others (no_chart n os ot) = (os ∙ sym s, ot ∙ sym t)
    by other others (of_chart c n o) = let bad : None ≡ Some c = sym lacks ∙ n in cc

-- and where it has it, the one answer for the chart
pub chart_one : (json : Bool) (name : List ℕ) (charts : Table) (Answer : ChartEntry → ℕ → List ℕ → Type 0) (chart : ChartEntry) (status : ℕ) (text : List ℕ) → chart_at charts name ≡ Some chart
    → IsTheOne (Answer chart) status text → IsTheOne (ChartOutcome json name charts Answer) status text
chart_one json name charts Answer chart status text named one = record { is = of_chart chart named one.is; only = λ other others o. by other others o }
  where
    by : (other : ℕ) (others : List ℕ) → ChartOutcome json name charts Answer other others → (other ≡ status) × (others ≡ text)
    by other others (no_chart n os ot) = let bad : None ≡ Some chart = sym n ∙ named in cc
    by other others (of_chart c n o) =
        let both : Some c ≡ Some chart = sym n ∙ named in
        let same : c ≡ chart = cc in
        one.only other others (subst (λ (u : ChartEntry). Answer u other others) same o)

-- one text is said with status 0
pub said_one : (words : List ℕ) (status : ℕ) (text : List ℕ) → status ≡ 0 → text ≡ words → IsTheOne (Says words) status text
said_one words status text s t = record { is = (s, t); only = λ other others o. (o.0 ∙ sym s, o.1 ∙ sym t) }

asked_one : (words : List (List ℕ)) (files : Files) (request : Request) (status : ℕ) (text : List ℕ) → request_of words ≡ Some request → IsTheOne (RequestOutcome request files) status text → IsTheOne (IsOutcome words files) status text
asked_one words files request status text asked one = record { is = of_request request asked one.is; only = λ other others o. by other others o }
  where
    by : (other : ℕ) (others : List ℕ) → IsOutcome words files other others → (other ≡ status) × (others ≡ text)
    by other others (no_request none os ot) = let bad : None ≡ Some request = sym none ∙ asked in cc
    by other others (of_request q a o) =
        let found : Some q ≡ Some request = sym a ∙ asked in
        let same : q ≡ request = cc in
        one.only other others (subst (λ (r : Request). RequestOutcome r files other others) same o)

no_request_one : (words : List (List ℕ)) (files : Files) (status : ℕ) (text : List ℕ) → IsNoRequest words → status ≡ 2 → text ≡ fault_line false Usage → IsTheOne (IsOutcome words files) status text
no_request_one words files status text none s t = record { is = no_request none s t; only = λ other others o. by other others o }
  where
    by : (other : ℕ) (others : List ℕ) → IsOutcome words files other others → (other ≡ status) × (others ≡ text)
    by other others (no_request n os ot) = (os ∙ sym s, ot ∙ sym t)
    by other others (of_request q a o) = let bad : None ≡ Some q = sym none ∙ a in cc

-- The same for replies, where the entries are told

pub log_told : {E : Type 0} (files : Option Files) (log bytes : List ℕ) (Answer : List ℕ → ℕ → List ℕ → Type 0) (r : Result Reply E) → IsHeld files log bytes → IfOk r (λ x. IsTheOne (Answer bytes) x.status x.text)
    → IfOk r (λ x. x.status < 7 → IfTold files (λ f. IsTheOne (EntryOutcome f log Answer) x.status x.text))
log_told None log bytes Answer (Ok x) h k = λ _. tt
log_told None log bytes Answer (Err e) h k = tt
log_told (Some f) log bytes Answer (Ok x) h k = λ _. entry_one f log bytes Answer x.status x.text h k
log_told (Some f) log bytes Answer (Err e) h k = tt

pub refused_told : {E : Type 0} (json : Bool) (files : Option Files) (d bytes : List ℕ) (Answer : Files → Table → ℕ → List ℕ → Type 0) (broken : Rule) (place : Place) (r : Result Reply E) → IsHeld files d bytes → IsOnlyFault bytes broken place
    → IfOk r (λ x. x.status ≡ 4) → IfOk r (λ x. x.text ≡ fault_line json (Document broken place)) → IfOk r (λ x. x.status < 7 → IfTold files (λ f. IsTheOne (DocumentOutcome json f d (Answer f)) x.status x.text))
refused_told json None d bytes Answer broken place (Ok x) h o s t = λ _. tt
refused_told json None d bytes Answer broken place (Err e) h o s t = tt
refused_told json (Some f) d bytes Answer broken place (Ok x) h o s t = λ _. refused_one json f d bytes (Answer f) broken place x.status x.text h o s t
refused_told json (Some f) d bytes Answer broken place (Err e) h o s t = tt

pub charts_told : {E : Type 0} (json : Bool) (files : Option Files) (d bytes : List ℕ) (Answer : Table → ℕ → List ℕ → Type 0) (charts : Table) (r : Result Reply E) → IsHeld files d bytes → IsOnlyDocument bytes charts
    → IfOk r (λ x. IsTheOne (Answer charts) x.status x.text) → IfOk r (λ x. x.status < 7 → IfTold files (λ f. IsTheOne (DocumentOutcome json f d Answer) x.status x.text))
charts_told json None d bytes Answer charts (Ok x) h doc one = λ _. tt
charts_told json None d bytes Answer charts (Err e) h doc one = tt
charts_told json (Some f) d bytes Answer charts (Ok x) h doc one = λ _. charts_one json f d bytes Answer charts x.status x.text h doc one
charts_told json (Some f) d bytes Answer charts (Err e) h doc one = tt

pub checked_told : (json : Bool) (files : Option Files) (d bytes : List ℕ) (charts : Table) (count : ℕ) (x : Reply) → IsHeld files d bytes → IsOnlyDocument bytes charts → x.status ≡ 0 → count ≡ length charts → x.text ≡ accepted_line json count
    → x.status < 7 → IfTold files (λ f. IsTheOne (DocumentOutcome json f d (CheckAnswer json)) x.status x.text)
checked_told json None d bytes charts count x h doc s n t = λ _. tt
checked_told json (Some f) d bytes charts count x h doc s n t =
    λ _. charts_one json f d bytes (CheckAnswer json) charts x.status x.text h doc (said_one (accepted_line json (length charts)) x.status x.text s (t ∙ ap (accepted_line json) n))

pub no_chart_told : {E : Type 0} (json : Bool) (files : Option Files) (d n l bytes : List ℕ) (Answer : Table → List ℕ → ℕ → List ℕ → Type 0) (charts : Table) (r : Result Reply E) → IsHeld files d bytes → IsOnlyDocument bytes charts → chart_at charts n ≡ None
    → IfOk r (λ x. x.status ≡ 4) → IfOk r (λ x. x.text ≡ fault_line json NoChart) → IfOk r (λ x. x.status < 7 → IfTold files (λ f. IsTheOne (FilesOutcome json f d n l Answer) x.status x.text))
no_chart_told json None d n l bytes Answer charts (Ok x) h doc lacks s t = λ _. tt
no_chart_told json None d n l bytes Answer charts (Err e) h doc lacks s t = tt
no_chart_told json (Some f) d n l bytes Answer charts (Ok x) h doc lacks s t =
    λ _. charts_one json f d bytes (JudgeAnswer json f n l Answer) charts x.status x.text h doc (no_chart_one json n charts (λ chart. EntryOutcome f l (Answer charts)) x.status x.text lacks s t)
no_chart_told json (Some f) d n l bytes Answer charts (Err e) h doc lacks s t = tt

pub judged_told : {E : Type 0} (json : Bool) (files : Option Files) (d n l bytes : List ℕ) (Answer : Table → List ℕ → ℕ → List ℕ → Type 0) (charts : Table) (chart : ChartEntry) (r : Result Reply E) → IsHeld files d bytes → IsOnlyDocument bytes charts → chart_at charts n ≡ Some chart
    → IfOk r (λ x. x.status < 7 → IfTold files (λ f. IsTheOne (EntryOutcome f l (Answer charts)) x.status x.text)) → IfOk r (λ x. x.status < 7 → IfTold files (λ f. IsTheOne (FilesOutcome json f d n l Answer) x.status x.text))
judged_told json None d n l bytes Answer charts chart (Ok x) h doc same k = λ _. tt
judged_told json None d n l bytes Answer charts chart (Err e) h doc same k = tt
judged_told json (Some f) d n l bytes Answer charts chart (Ok x) h doc same k =
    λ lt. charts_one json f d bytes (JudgeAnswer json f n l Answer) charts x.status x.text h doc (chart_one json n charts (λ c. EntryOutcome f l (Answer charts)) chart x.status x.text same (k lt))
judged_told json (Some f) d n l bytes Answer charts chart (Err e) h doc same k = tt

has_chart : (files : Option Files) (d n bytes : List ℕ) (charts : Table) (chart : ChartEntry) → IsHeld files d bytes → IsDocument bytes charts → chart_at charts n ≡ Some chart → IfTold files (HasChart d n)
has_chart None d n bytes charts chart h doc same = tt
has_chart (Some f) d n bytes charts chart h doc same = (bytes, charts, chart, h, doc, same)

later_failed : (before mid now : ℕ) (broken : Bool) (last : Option (List ℕ)) (name : List ℕ) → before ≤ mid → FailedAt mid now broken last name → FailedAt before now broken last name
later_failed before mid now broken last name le f = record { rose = omega (arith, f.rose); is_broken = f.is_broken; is_last = f.is_last }

pub log_failed : {E : Type 0} (json : Bool) (files : Option Files) (d n l bytes : List ℕ) (charts : Table) (chart : ChartEntry) (before mid now : ℕ) (broken : Bool) (last : Option (List ℕ)) (r : Result Reply E)
    → IsHeld files d bytes → IsDocument bytes charts → chart_at charts n ≡ Some chart → before ≤ mid → IfOk r (λ x. x.status ≡ 7 → FailedAt mid now broken last l) → IfOk r (λ x. x.status ≡ 7 → x.text ≡ fault_line json LogRead)
    → IfOk r (λ x. x.status ≡ 7 → CannotRead json files before now broken last d n l x.text)
log_failed json files d n l bytes charts chart before mid now broken last (Ok x) h doc same le f t = λ e. inr (later_failed before mid now broken last l le (f e), t e, has_chart files d n bytes charts chart h doc same)
log_failed json files d n l bytes charts chart before mid now broken last (Err e) h doc same le f t = tt

pub asked_told : {E : Type 0} (files : Option Files) (words : List (List ℕ)) (request : Request) (r : Result Reply E) → request_of words ≡ Some request → IfOk r (λ x. x.status < 7 → IfTold files (λ f. IsTheOne (RequestOutcome request f) x.status x.text))
    → IfOk r (λ x. x.status < 7 → IfTold files (λ f. IsTheOne (IsOutcome words f) x.status x.text))
asked_told None words request (Ok x) a k = λ _. tt
asked_told None words request (Err e) a k = tt
asked_told (Some f) words request (Ok x) a k = λ lt. asked_one words f request x.status x.text a (k lt)
asked_told (Some f) words request (Err e) a k = tt

pub unasked_told : {E : Type 0} (files : Option Files) (words : List (List ℕ)) (r : Result Reply E) → IsNoRequest words → IfOk r (λ x. x.status ≡ 2) → IfOk r (λ x. x.text ≡ fault_line false Usage)
    → IfOk r (λ x. x.status < 7 → IfTold files (λ f. IsTheOne (IsOutcome words f) x.status x.text))
unasked_told None words (Ok x) none s t = λ _. tt
unasked_told None words (Err e) none s t = tt
unasked_told (Some f) words (Ok x) none s t = λ _. no_request_one words f x.status x.text none s t
unasked_told (Some f) words (Err e) none s t = tt

-- where the shelf fails at a request that the words are, it fails at the words
pub asked_failed : {E : Type 0} (files : Option Files) (words : List (List ℕ)) (request : Request) (before now : ℕ) (broken : Bool) (last : Option (List ℕ)) (r : Result Reply E) → request_of words ≡ Some request
    → IfOk r (λ x. x.status ≡ 7 → CannotServe request files before now broken last x.text) → IfOk r (λ x. x.status ≡ 7 → CannotJudge words files before now broken last x.text)
asked_failed files words request before now broken last (Ok x) a k = λ e. record { request = request; asked = a; failed = k e }
asked_failed files words request before now broken last (Err e) a k = tt

-- what is answered to a request is answered to what it is
pub served : {E : Type 0} (files : Option Files) (asked request : Request) (r : Result Reply E) → asked ≡ request → IfOk r (λ x. x.status < 7 → IfTold files (λ f. IsTheOne (RequestOutcome request f) x.status x.text))
    → IfOk r (λ x. x.status < 7 → IfTold files (λ f. IsTheOne (RequestOutcome asked f) x.status x.text))
served files asked request r is k = subst (λ (q : Request). IfOk r (λ x. x.status < 7 → IfTold files (λ f. IsTheOne (RequestOutcome q f) x.status x.text))) (sym is) k

-- The clauses of the top call

small_or_not : (n : ℕ) → (n < 7) ⊎ (7 ≤ n)
small_or_not zero = inl (omega arith)
small_or_not (suc zero) = inl (omega arith)
small_or_not (suc (suc zero)) = inl (omega arith)
small_or_not (suc (suc (suc zero))) = inl (omega arith)
small_or_not (suc (suc (suc (suc zero)))) = inl (omega arith)
small_or_not (suc (suc (suc (suc (suc zero))))) = inl (omega arith)
small_or_not (suc (suc (suc (suc (suc (suc zero)))))) = inl (omega arith)
small_or_not (suc (suc (suc (suc (suc (suc (suc n))))))) = inr (omega arith)

-- a reply's status that is of an outcome is below those of failures
below : (status : ℕ) → status ≤ 7 → IsOfOutcome status → status < 7
below status le o = elim (small_or_not status) [ inl lt ↦ lt | inr more ↦ absurd (o.0 (omega (arith, le, more))) ]

pub of_outcome : (status : ℕ) → status < 7 → IsOfOutcome status
of_outcome status lt = (λ e. omega (arith, lt, e), λ e. omega (arith, lt, e), λ e. omega (arith, lt, e))

pub without_told : (files : Option Files) (words : List (List ℕ)) (status : ℕ) (text : List ℕ) → status ≤ 7 → (status < 7 → IfTold files (λ f. IsTheOne (IsOutcome words f) status text))
    → IfTold files (λ f. ((s : ℕ) (t : List ℕ) → IsOutcome words f s t → ⊥) → IsOfOutcome status → ⊥)
without_told None words status text le k = tt
without_told (Some f) words status text le k = λ none o. none status text (k (below status le o)).is

pub part_told : (files : Option Files) (words : List (List ℕ)) (before now : ℕ) (broken : Bool) (last : Option (List ℕ)) (old new : Option (List ℕ)) (status : ℕ) (text : List ℕ) → status ≤ 7 → (status < 7 → IfTold files (λ f. IsTheOne (IsOutcome words f) status text))
    → (status ≡ 7 → CannotJudge words files before now broken last text) → AppendsPart old new text
    → IfTold files (λ f. (t : List ℕ) × AppendsPart old new t × (((s : ℕ) × IsTheOne (IsOutcome words f) s t) ⊎ CannotJudge words files before now broken last t))
part_told None words before now broken last old new status text le k m p = tt
part_told (Some f) words before now broken last old new status text le k m p =
    (text, p, elim (small_or_not status) [ inl lt ↦ inl (status, k lt) | inr more ↦ inr (m (omega arith)) ])

pub outcome_told : (files : Option Files) (words : List (List ℕ)) (old new : Option (List ℕ)) (status : ℕ) (text : List ℕ) → (status < 7 → IfTold files (λ f. IsTheOne (IsOutcome words f) status text)) → Appends old new text → status ≤ 7 → IsOfOutcome status
    → IfTold files (λ f. (t : List ℕ) × IsTheOne (IsOutcome words f) status t × Appends old new t)
outcome_told None words old new status text k a le o = tt
outcome_told (Some f) words old new status text k a le o = (text, k (below status le o), a)

-- a reply of status 4 is no reply of another status
pub four_small : {E : Type 0} (r : Result Reply E) → IfOk r (λ x. x.status ≡ 4) → IfOk r (λ x. x.status ≤ 7)
four_small (Ok x) s = omega (arith, s)
four_small (Err e) s = tt

pub four_not_two : {E : Type 0} (r : Result Reply E) → IfOk r (λ x. x.status ≡ 4) → IfOk r (λ x. x.status ≡ 2 → ⊥)
four_not_two (Ok x) s = λ two. omega (arith, s, two)
four_not_two (Err e) s = tt

pub four_read : {E : Type 0} (P : Reply → Type 0) (r : Result Reply E) → IfOk r (λ x. x.status ≡ 4) → IfOk r (λ x. x.status ≡ 7 → P x)
four_read P (Ok x) s = λ seven. absurd (omega (arith, s, seven))
four_read P (Err e) s = tt

-- a reply of status 5 tells the fault of the log
pub five_small : {E : Type 0} (r : Result Reply E) → IfOk r (λ x. x.status ≡ 5) → IfOk r (λ x. x.status < 7)
five_small (Ok x) s = omega (arith, s)
five_small (Err e) s = tt

pub five_not_two : {E : Type 0} (r : Result Reply E) → IfOk r (λ x. x.status ≡ 5) → IfOk r (λ x. x.status ≡ 2 → ⊥)
five_not_two (Ok x) s = λ two. omega (arith, s, two)
five_not_two (Err e) s = tt

pub fault_told : {E : Type 0} (wanted : Wanted) (form : LogForm) (budget : ℕ) (json : Bool) (table : Table) (name bytes : List ℕ) (fault : LogFault) (r : Result Reply E) → IfOk r (λ x. x.status ≡ 5) → IfOk r (λ x. x.text ≡ fault_line json (Log fault))
    → IsJudged table name form budget bytes (Refused fault) → IfOk r (λ x. IsTheOne (LogOutcome wanted form budget json table name bytes) x.status x.text)
fault_told wanted form budget json table name bytes fault (Ok x) s t is = faulty_one wanted form budget json table name bytes fault x.status x.text is.1 s t
fault_told wanted form budget json table name bytes fault (Err e) s t is = tt

-- a reply that tells the verdict, and one that tells what may come next
pub verdict_told : {E : Type 0} (wanted : Wanted) (form : LogForm) (budget : ℕ) (json : Bool) (table : Table) (name bytes : List ℕ) (verdict : Verdict) (r : Result Reply E) → IsWanted wanted (log.Told verdict)
    → IsJudged table name form budget bytes (log.Told verdict) → IfOk r (λ x. TellsVerdict json verdict x.status x.text) → IfOk r (λ x. IsTheOne (LogOutcome wanted form budget json table name bytes) x.status x.text)
verdict_told TheVerdict form budget json table name bytes verdict (Ok x) w is told = judged_one form budget json table name bytes verdict x.status x.text is told.0 told.1
verdict_told TheVerdict form budget json table name bytes verdict (Err e) w is told = tt
verdict_told NextLabels form budget json table name bytes verdict r w is told = absurd w

pub next_told : {E : Type 0} (wanted : Wanted) (form : LogForm) (budget : ℕ) (json : Bool) (table : Table) (name bytes : List ℕ) (next : chart.Next) (r : Result Reply E) → IsWanted wanted (log.Next next)
    → IsJudged table name form budget bytes (log.Next next) → IfOk r (IsNextReply next) → IfOk r (λ x. IsTheOne (LogOutcome wanted form budget json table name bytes) x.status x.text)
next_told TheVerdict form budget json table name bytes next r w is told = absurd w
next_told NextLabels form budget json table name bytes next (Ok x) w is told = next_one form budget json table name bytes next x.status x.text is told
next_told NextLabels form budget json table name bytes next (Err e) w is told = tt

-- a log that was judged has no want of memory for a fault
pub told_log : (table : Table) (name : List ℕ) (form : LogForm) (budget : ℕ) (bytes : List ℕ) (judged : Judged) → IsJudged table name form budget bytes judged → IsToldLog judged
told_log table name form budget bytes (log.Told verdict) h = tt
told_log table name form budget bytes (log.Next next) h = tt
told_log table name form budget bytes (Refused fault) h = h.0

-- ---- a document that was opened

pub told_outcome : (json : Bool) (files : Option Files) (before now : ℕ) (broken : Bool) (last : Option (List ℕ)) (d : List ℕ) (x : Reply) (Answer : Files → Table → ℕ → List ℕ → Type 0) → IsOpened json files before now broken last d (Told x)
    → x.status < 7 → IfTold files (λ f. IsTheOne (DocumentOutcome json f d (Answer f)) x.status x.text)
told_outcome json files before now broken last d x Answer opened lt = elim opened [
  | inl t ↦ refused_told {E = ℕ} json files d t.document.bytes Answer t.rule t.place (Ok x) t.document.held t.document.is t.status t.text lt
  | inr t ↦ absurd (omega (arith, lt, t.status))
]
