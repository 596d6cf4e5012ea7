-- What may come next in a log, by the term and by the chart.
use Rattle.std.proofs.Common.{◌≡◌, ◌++◌, ◌∷◌, ℕ, List, [], Option, Some, None, Result, Ok, Err, IfOk, MatchOption, refl, sym, ◌∙◌, subst}
use Rattle.msc_base.specs.declared.label.Label.{Label}
use Rattle.msc_base.specs.declared.verdict.Verdict.{Verdict}
use Rattle.msc_base.specs.declared.verdict.Verdict.TheVariants.{Conforms, Fails, Early, TooLarge}
use Rattle.line_events.specs.declared.event.LineEvent.{LineEvent}
use Rattle.msc_meaning.specs.Meanings.{Begins}
use Rattle.msc_meaning.specs.Tables.{Table}
use Rattle.event_log.specs.declared.event.LogForm.{LogForm}
use Rattle.chart_term.specs.TermPatterns.{Both}
use Rattle.chart_term.specs.Terms.{Tree}
use Rattle.term_tables.specs.NetValues.{NetsValue}
use Rattle.term_sets.specs.Memories.{PoolValue, held_set}
use Rattle.term_sets.specs.contracts.pool.PoolStore.TheImpl.{holds-value}
use Rattle.trace_judge.specs.Laws.{SetsTellNextLabels}
use Rattle.trace_judge.specs.Logs.{labels_of, BeginsTermRun}
use Rattle.trace_judge.specs.Sets.{GoesOnWith}
use Rattle.trace_judge.specs.Tracks.{Fed, IsGoing, IsSettled, Stands, TrackValue}
use Rattle.trace_judge.specs.Verdicts.{IsOpen, IsTermVerdict}
use Rattle.next_labels.specs.NextLabels.{AreAll, AreNextLabels, LabelListsAreOne}
use Rattle.chart_judge.specs.ChartsTold.{VerdictsAreTold}
use Rattle.log_judge.specs.Ends.{HasEnded}
use Rattle.chart_judge.specs.Judging.{IsJudging}
use Rattle.chart_judge.specs.NextLabels.{AreBeside, BeginningsAreTold, IsNextOn, IsTermNext}
use Rattle.log_judge.specs.States as judge
use Rattle.chart_judge.specs.declared.next.Next.{Next}
use Rattle.chart_judge.proofs.Verdicts.{through}

-- ---- lists of all labels with a property

all_moves : (P Q : Label → Type 0) (labels : List Label) → ((a : Label) → Both (P a) (Q a)) → AreAll P labels → AreAll Q labels
all_moves P Q labels same h = record { rising = h.rising; exact = λ a. through (h.exact a) (same a) }

module _ (Begun Begins : List Label → Type 0) (same : (labels : List Label) → Both (Begun labels) (Begins labels)) (labels next : List Label) where
  beside_moves : (verdict : Verdict) → AreBeside verdict Begun labels next → AreBeside verdict Begins labels next
  beside_moves (Conforms count) h = all_moves (λ a. Begun (labels ++ a ∷ [])) (λ a. Begins (labels ++ a ∷ [])) next (λ a. same (labels ++ a ∷ [])) h
  beside_moves (Fails number line) h = h
  beside_moves (Early count) h = all_moves (λ a. Begun (labels ++ a ∷ [])) (λ a. Begins (labels ++ a ∷ [])) next (λ a. same (labels ++ a ∷ [])) h
  beside_moves (TooLarge number) h = h

module _ (law : LabelListsAreOne) where
  one_all : (P : Label → Type 0) (labels others : List Label) → AreAll P labels → AreAll P others → others ≡ labels
  one_all P labels others a b = law others labels b.rising a.rising (λ l. record { to = λ i. (a.exact l).from ((b.exact l).to i); from = λ i. (b.exact l).from ((a.exact l).to i) })

  one_beside : (verdict : Verdict) (Begins : List Label → Type 0) (labels next others : List Label) → AreBeside verdict Begins labels next → AreBeside verdict Begins labels others → others ≡ next
  one_beside (Conforms count) Begins labels next others a b = one_all (λ l. Begins (labels ++ l ∷ [])) next others a b
  one_beside (Fails number line) Begins labels next others a b = b ∙ sym a
  one_beside (Early count) Begins labels next others a b = one_all (λ l. Begins (labels ++ l ∷ [])) next others a b
  one_beside (TooLarge number) Begins labels next others a b = b ∙ sym a

-- ---- the labels behind the events that a track has taken

module _ (v : NetsValue) (x : Tree) (budget : ℕ) (events : List LineEvent) (t : TrackValue PoolValue) (fed : Fed holds-value.it v x budget events t) where
  going : (pool : PoolValue) → t.ended ≡ None → t.set ≡ Some pool → IsGoing v x budget events (held_set pool)
  going pool e s = subst (λ (o : Option Verdict). Stands holds-value.it v x budget events (Some pool) o) e (subst (λ (p : Option PoolValue). Stands holds-value.it v x budget events p t.ended) s fed.stands)

  pub open_labels : SetsTellNextLabels → (pool : PoolValue) (labels : List Label) → t.ended ≡ None → t.set ≡ Some pool → AreNextLabels v (held_set pool).terms labels
      → MatchOption t.ended (AreAll (λ a. BeginsTermRun v x (labels_of events ++ a ∷ [])) labels) (λ verdict. labels ≡ [])
  open_labels law pool labels e s h = subst (λ (o : Option Verdict). MatchOption o (AreAll (λ a. BeginsTermRun v x (labels_of events ++ a ∷ [])) labels) (λ verdict. labels ≡ [])) (sym e)
      (all_moves (λ a. GoesOnWith v a (held_set pool).terms) (λ a. BeginsTermRun v x (labels_of events ++ a ∷ [])) labels (λ a. law v x (labels_of events) a (held_set pool).terms fed.sound (going pool e s).are) h)

  pub settled_labels : (labels : List Label) → (t.ended ≡ None → t.set ≡ None) → labels ≡ [] → MatchOption t.ended (AreAll (λ a. BeginsTermRun v x (labels_of events ++ a ∷ [])) labels) (λ verdict. labels ≡ [])
  settled_labels labels none h = by t.ended none fed.stands
    where
      by : (o : Option Verdict) → (o ≡ None → t.set ≡ None) → Stands holds-value.it v x budget events t.set o → MatchOption o (AreAll (λ a. BeginsTermRun v x (labels_of events ++ a ∷ [])) labels) (λ verdict. labels ≡ [])
      by None f s = absurd (subst (λ (p : Option PoolValue). Stands holds-value.it v x budget events p None) (f refl) s)
      by (Some verdict) f s = h

  beside_open : (verdict : Verdict) (labels : List Label) → IsOpen verdict → AreAll (λ a. BeginsTermRun v x (labels_of events ++ a ∷ [])) labels → AreBeside verdict (BeginsTermRun v x) (labels_of events) labels
  beside_open (Conforms count) labels o h = h
  beside_open (Fails number line) labels o h = absurd o
  beside_open (Early count) labels o h = h
  beside_open (TooLarge number) labels o h = absurd o

  beside_settled : (verdict : Verdict) (labels : List Label) → IsSettled v x budget events verdict → labels ≡ [] → AreBeside verdict (BeginsTermRun v x) (labels_of events) labels
  beside_settled (Conforms count) labels s h = absurd s
  beside_settled (Fails number line) labels s h = h
  beside_settled (Early count) labels s h = absurd s
  beside_settled (TooLarge number) labels s h = h

  pub beside : (verdict : Verdict) (labels : List Label) → MatchOption t.ended (IsOpen verdict) (λ settled. verdict ≡ settled)
      → MatchOption t.ended (AreAll (λ a. BeginsTermRun v x (labels_of events ++ a ∷ [])) labels) (λ settled. labels ≡ []) → AreBeside verdict (BeginsTermRun v x) (labels_of events) labels
  beside verdict labels free told = by t.ended t.set fed.stands free told
    where
      by : (o : Option Verdict) (p : Option PoolValue) → Stands holds-value.it v x budget events p o → MatchOption o (IsOpen verdict) (λ settled. verdict ≡ settled)
          → MatchOption o (AreAll (λ a. BeginsTermRun v x (labels_of events ++ a ∷ [])) labels) (λ settled. labels ≡ []) → AreBeside verdict (BeginsTermRun v x) (labels_of events) labels
      by None p s free told = beside_open verdict labels free told
      by (Some settled) None s same told = subst (λ (w : Verdict). AreBeside w (BeginsTermRun v x) (labels_of events) labels) (sym same) (beside_settled settled labels s told)
      by (Some settled) (Some pool) s same told = subst (λ (w : Verdict). AreBeside w (BeginsTermRun v x) (labels_of events) labels) (sym same) (beside_settled settled labels s told)

-- the same of an answer
pub open_told : {E : Type 0} (law : SetsTellNextLabels) (v : NetsValue) (t : TrackValue PoolValue) (pool : PoolValue) (r : Result (List Label) E) → t.ended ≡ None → t.set ≡ Some pool → IfOk r (AreNextLabels v (held_set pool).terms)
    → IfOk r (λ labels. (x : Tree) (budget : ℕ) (events : List LineEvent) → Fed holds-value.it v x budget events t → MatchOption t.ended (AreAll (λ a. BeginsTermRun v x (labels_of events ++ a ∷ [])) labels) (λ verdict. labels ≡ []))
open_told law v t pool (Ok labels) e s h = λ x budget events fed. open_labels v x budget events t fed law pool labels e s h
open_told law v t pool (Err fault) e s h = tt

-- ---- behind all events of a log

pub term_next : (v w : NetsValue) (x : Tree) (form : LogForm) (budget : ℕ) (bytes : List ℕ) (t : TrackValue PoolValue) (verdict : Verdict) (labels : List Label)
    → ((y : Tree) (m : ℕ) (events : List LineEvent) → Fed holds-value.it w y m events t → IsTermVerdict w y m events verdict) → MatchOption t.ended (IsOpen verdict) (λ settled. verdict ≡ settled)
    → ((y : Tree) (m : ℕ) (events : List LineEvent) → Fed holds-value.it w y m events t → MatchOption t.ended (AreAll (λ a. BeginsTermRun w y (labels_of events ++ a ∷ [])) labels) (λ settled. labels ≡ []))
    → HasEnded holds-value.it v x form budget bytes w t → IsTermNext v x form budget bytes (record { verdict = verdict; labels = labels })
term_next v w x form budget bytes t verdict labels judged free told h =
    let taken = subst (λ (u : NetsValue). Fed holds-value.it u x budget h.takes.log.events t) (sym h.nets_are) h.takes.taken in
    subst (λ (u : NetsValue). IsTermNext u x form budget bytes (record { verdict = verdict; labels = labels })) h.nets_are (record {
      log = h.takes.log;
      verdict = judged x budget h.takes.log.events taken;
      labels = beside w x budget h.takes.log.events t taken verdict labels free (told x budget h.takes.log.events taken);
    })

-- ---- by the chart

pub next_on : VerdictsAreTold → BeginningsAreTold → LabelListsAreOne → (table : Table) (name : List ℕ) (form : LogForm) (budget : ℕ) (bytes : List ℕ) (j : judge.JudgeValue PoolValue) (next : Next) → IsJudging table name form budget bytes j
    → ((v : NetsValue) (x : Tree) → judge.Fed holds-value.it v x form budget bytes j → IsTermNext v x form budget bytes next) → IsNextOn table name form budget bytes next
next_on verdicts beginnings lists table name form budget bytes j next judging ends =
    let h = ends judging.tables judging.term judging.fed in
    let labels = labels_of h.log.events in
    let here = beside_moves (BeginsTermRun judging.tables judging.term) (Begins table name) (beginnings table name judging.has.chart judging.tables judging.term judging.has.is judging.accepted judging.has.made) labels next.labels next.verdict h.labels in
    record {
      log = h.log;
      verdict = verdicts table name judging.has.chart judging.tables judging.term budget h.log.events next.verdict judging.has.is judging.accepted judging.has.made h.verdict;
      labels = record { holds = here; alone = λ others o. one_beside lists next.verdict (Begins table name) labels next.labels others here o };
    }
