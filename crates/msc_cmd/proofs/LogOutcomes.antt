-- The one outcome of a log.
use Rattle.std.proofs.Common.{◌≡◌, ◌++◌, ◌∷◌, [], ℕ, List, sym, ap, ◌∙◌, subst, Bool, true, false, Some, None}
use Rattle.msc_base.specs.Only.{Only}
use Rattle.msc_base.specs.declared.label.Label.{Label}
use Rattle.msc_base.specs.declared.verdict.Verdict.{Verdict}
use Rattle.msc_base.specs.declared.verdict.Verdict.TheVariants.{Conforms, Fails, Early, TooLarge}
use Rattle.outside.specs.Shelves.{Files}
use Rattle.msc_meaning.specs.Meanings.{Begins}
use Rattle.msc_meaning.specs.Tables.{Table}
use Rattle.event_log.specs.States.{IsFaultOf}
use Rattle.line_events.specs.declared.event.LineEvent.{LineEvent}
use Rattle.event_log.specs.declared.event.LogFault.{LogFault}
use Rattle.event_log.specs.declared.event.LogForm.{LogForm}
use Rattle.chart_judge.specs.ChartVerdicts.{IsChartVerdict}
use Rattle.chart_judge.specs.Judging.{IsVerdictOn}
use Rattle.judge_report.specs.declared.fault.Fault.TheVariants.{Log}
use Rattle.judge_report.specs.Texts.{fault_line, verdict_line}
use Rattle.next_labels.specs.NextLabels.{AreAll}
use Rattle.trace_judge.specs.Logs.{labels_of}
use Rattle.chart_judge.specs.NextLabels.{AreBeside, IsNextOn}
use Rattle.chart_judge.specs.declared.next.Next.{Next}
use Rattle.judge_report.specs.NextTexts.{next_list}
use Rattle.msc_cmd.specs.LogJudging.{SaysNext}
use Rattle.msc_cmd.specs.declared.log_reading.Wanted.{Wanted}
use Rattle.msc_cmd.specs.declared.log_reading.Wanted.TheVariants.{TheVerdict, NextLabels}
use Rattle.msc_cmd.specs.Outcomes.{LogOutcome, bad_log, judged, EntryOutcome, of_bytes, IsTheOne, ListsNext, Says, TellsNext}
use Rattle.msc_cmd.specs.VerdictStatuses.{status_of}

-- a log without a fault
pub judged_one : (form : LogForm) (budget : ℕ) (json : Bool) (table : Table) (name bytes : List ℕ) (verdict : Verdict) (status : ℕ) (text : List ℕ)
    → IsVerdictOn table name form budget bytes verdict → status ≡ status_of verdict → text ≡ verdict_line json verdict → IsTheOne (LogOutcome TheVerdict form budget json table name bytes) status text
judged_one form budget json table name bytes verdict status text v s t = record { is = judged v.log.events verdict v.log.log v.is.holds (s, t); only = λ other others o. by other others o }
  where
    by : (other : ℕ) (others : List ℕ) → LogOutcome TheVerdict form budget json table name bytes other others → (other ≡ status) × (others ≡ text)
    by other others (bad_log es fault l os ot) = let bad : Some fault ≡ None = (v.log.alone es (Some fault) l).1 in cc
    by other others (judged es w l x told) =
        let same : w ≡ verdict = v.is.alone w (subst (λ (us : List LineEvent). IsChartVerdict table name budget us w) (v.log.alone es None l).0 x) in
        (told.0 ∙ ap status_of same ∙ sym s, told.1 ∙ ap (verdict_line json) same ∙ sym t)

-- a log whose next labels are listed, where it may go on
module _ (table : Table) (name : List ℕ) (events : List LineEvent) where
  lists : (conforms : Bool) (labels : List Label) (status : ℕ) (text : List ℕ) → Only (AreAll (λ a. Begins table name (labels_of events ++ a ∷ []))) labels → Says (next_list conforms labels) status text → ListsNext table name events conforms status text
  lists conforms labels status text one said = record { next = labels; are = one.holds; status_is = said.0; text_is = said.1 }

  same_list : (conforms : Bool) (labels : List Label) (status other : ℕ) (text others : List ℕ) → Only (AreAll (λ a. Begins table name (labels_of events ++ a ∷ []))) labels → Says (next_list conforms labels) status text → ListsNext table name events conforms other others
      → (other ≡ status) × (others ≡ text)
  same_list conforms labels status other text others one said told = (told.status_is ∙ sym said.0, told.text_is ∙ ap (next_list conforms) (one.alone told.next told.are) ∙ sym said.1)

  tells : (verdict : Verdict) (labels : List Label) (status : ℕ) (text : List ℕ) → Only (AreBeside verdict (Begins table name) (labels_of events)) labels → SaysNext verdict labels status text → TellsNext table name events verdict status text
  tells (Conforms count) labels status text one said = lists true labels status text one said
  tells (Fails number line) labels status text one said = said
  tells (Early count) labels status text one said = lists false labels status text one said
  tells (TooLarge number) labels status text one said = said

  same_told : (verdict : Verdict) (labels : List Label) (status other : ℕ) (text others : List ℕ) → Only (AreBeside verdict (Begins table name) (labels_of events)) labels → SaysNext verdict labels status text → TellsNext table name events verdict other others
      → (other ≡ status) × (others ≡ text)
  same_told (Conforms count) labels status other text others one said told = same_list true labels status other text others one said told
  same_told (Fails number line) labels status other text others one said told = (told.0 ∙ sym said.0, told.1 ∙ sym said.1)
  same_told (Early count) labels status other text others one said told = same_list false labels status other text others one said told
  same_told (TooLarge number) labels status other text others one said told = (told.0 ∙ sym said.0, told.1 ∙ sym said.1)

pub next_one : (form : LogForm) (budget : ℕ) (json : Bool) (table : Table) (name bytes : List ℕ) (next : Next) (status : ℕ) (text : List ℕ) → IsNextOn table name form budget bytes next → SaysNext next.verdict next.labels status text
    → IsTheOne (LogOutcome NextLabels form budget json table name bytes) status text
next_one form budget json table name bytes next status text v said = record {
  is = judged v.log.events next.verdict v.log.log v.verdict.holds (tells table name v.log.events next.verdict next.labels status text v.labels said);
  only = λ other others o. by other others o;
}
  where
    by : (other : ℕ) (others : List ℕ) → LogOutcome NextLabels form budget json table name bytes other others → (other ≡ status) × (others ≡ text)
    by other others (bad_log es fault l os ot) = let bad : Some fault ≡ None = (v.log.alone es (Some fault) l).1 in cc
    by other others (judged es w l x told) =
        let events = (v.log.alone es None l).0 in
        let same : w ≡ next.verdict = v.verdict.alone w (subst (λ (us : List LineEvent). IsChartVerdict table name budget us w) events x) in
        let here = subst (λ (u : Verdict). TellsNext table name v.log.events u other others) same (subst (λ (us : List LineEvent). TellsNext table name us w other others) events told) in
        same_told table name v.log.events next.verdict next.labels status other text others v.labels said here

-- a log that has a fault
pub faulty_one : (wanted : Wanted) (form : LogForm) (budget : ℕ) (json : Bool) (table : Table) (name bytes : List ℕ) (fault : LogFault) (status : ℕ) (text : List ℕ) → IsFaultOf form false bytes (Some fault) → status ≡ 5
    → text ≡ fault_line json (Log fault) → IsTheOne (LogOutcome wanted form budget json table name bytes) status text
faulty_one wanted form budget json table name bytes fault status text log s t = record { is = bad_log log.events fault log.log s t; only = λ other others o. by other others o }
  where
    by : (other : ℕ) (others : List ℕ) → LogOutcome wanted form budget json table name bytes other others → (other ≡ status) × (others ≡ text)
    by other others (bad_log es g l os ot) =
        let found : Some g ≡ Some fault = (log.alone es (Some g) l).1 in
        let same : g ≡ fault = cc in
        (os ∙ sym s, ot ∙ ap (λ (f : LogFault). fault_line json (Log f)) same ∙ sym t)
    by other others (judged es w l x told) = let bad : None ≡ Some fault = (log.alone es None l).1 in cc

-- an entry of a name has one list of bytes
pub one_entry : (files : Files) (name a b : List ℕ) → files name ≡ Some a → files name ≡ Some b → b ≡ a
one_entry files name a b ia ib = let h : Some b ≡ Some a = sym ib ∙ ia in cc

-- the one outcome of an entry's bytes is that of the entry
pub entry_one : (files : Files) (log bytes : List ℕ) (Answer : List ℕ → ℕ → List ℕ → Type 0) (status : ℕ) (text : List ℕ) → files log ≡ Some bytes → IsTheOne (Answer bytes) status text → IsTheOne (EntryOutcome files log Answer) status text
entry_one files log bytes Answer status text held one = record { is = of_bytes bytes held one.is; only = λ other others o. by other others o }
  where
    by : (other : ℕ) (others : List ℕ) → EntryOutcome files log Answer other others → (other ≡ status) × (others ≡ text)
    by other others (of_bytes bs held_too o) = one.only other others (subst (λ us. Answer us other others) (one_entry files log bytes bs held held_too) o)
