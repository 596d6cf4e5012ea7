-- The largest weight of what is left of a chart's term, where a log conforms.
use Rattle.std.proofs.Common.{◌≡◌, ◌≤◌, ℕ, true, false, if◌then◌else◌, List, [], ◌∷◌, ◌++◌, take, None, refl, sym, ap, ◌∙◌, subst, append_assoc, arith}
use Rattle.msc_base.specs.declared.limits.TheConstants.Limits.{LOG_BYTES}
use Rattle.msc_base.specs.declared.label.Label.{Label}
use Rattle.msc_base.specs.declared.verdict.Verdict.TheVariants.{Conforms}
use Rattle.line_events.specs.declared.event.LineEvent.{LineEvent}
use Rattle.msc_meaning.specs.Tables.{Table}
use Rattle.event_log.specs.Lines.{Cut, with_byte, with_bytes, nothing_cut, cut_of, long_line, last_line, decided, is_within, lines_of}
use Rattle.event_log.specs.Logs.{LogOf, PassesLines, first_stage}
use Rattle.event_log.specs.States.{IsFaultOf}
use Rattle.event_log.specs.declared.event.LogForm.{LogForm}
use Rattle.chart_term.specs.Terms.{Tree}
use Rattle.term_tables.specs.NetValues.{NetsValue}
use Rattle.trace_judge.specs.Laws.{SetsGoOn}
use Rattle.trace_judge.specs.Logs.{labels_of, AreResiduals, WeighsWithin}
use Rattle.trace_judge.specs.Verdicts.{AreWithin, Weighs, IsReached, by_front, by_none, IsLargest}
use Rattle.term_sets.specs.Memories.{PoolValue}
use Rattle.term_sets.specs.contracts.pool.PoolStore.TheImpl.{holds-value}
use Rattle.chart_judge.specs.ChartVerdicts.{HasTerm, IsChartVerdict, IsWithinBudget}
use Rattle.chart_judge.specs.ChartsTold.{ChartsHaveTerms}
use Rattle.log_judge.specs.Judged.{IsLargestOf}
use Rattle.chart_judge.specs.Judging.{IsJudging}
use Rattle.chart_judge.specs.LargestWeights.{LeavesWeight, IsLargestWeight, IsLargestOn, LargestIsTold}
use Rattle.log_judge.specs.States.{JudgeValue, Fed}

-- ---- a log whose last line has its end

ends_cut : (c : Cut) (bs : List ℕ) → (with_bytes c (bs ++ 10 ∷ [])).tail ≡ []
ends_cut c [] = refl
ends_cut c (b ∷ bs) = ends_cut (with_byte c b) bs

same_decided : (bytes : List ℕ) → (cut_of bytes).tail ≡ [] → decided true bytes ≡ decided false bytes
same_decided bytes none =
    ap (λ (t : List ℕ). (cut_of bytes).ended ++ long_line t) none ∙ sym (ap (λ (t : List ℕ). (cut_of bytes).ended ++ last_line t) none)

-- it has the same lines, whether it goes on or not
same_lines : (b : List ℕ) → lines_of true (b ++ 10 ∷ []) ≡ lines_of false (b ++ 10 ∷ [])
same_lines b =
    ap (λ (ls : List (List ℕ)). if is_within (b ++ 10 ∷ []) then ls else decided true (take LOG_BYTES (b ++ 10 ∷ [])))
    (same_decided (b ++ 10 ∷ []) (ends_cut nothing_cut b))

whole_log : (form : LogForm) (b : List ℕ) (events : List LineEvent) → LogOf form true (b ++ 10 ∷ []) events None → LogOf form false (b ++ 10 ∷ []) events None
whole_log form b events h = record {
  stage = h.stage;
  found = h.found;
  reads = subst (λ (ls : List (List ℕ)). PassesLines form first_stage ls h.stage h.found) (same_lines b) h.reads;
  events_are = h.events_are;
  fault_is = h.fault_is;
}

-- and the same events
same_events : (form : LogForm) (b : List ℕ) (goes_on : IsFaultOf form true (b ++ 10 ∷ []) None) (ends : IsFaultOf form false (b ++ 10 ∷ []) None) → goes_on.events ≡ ends.events
same_events form b goes_on ends = (ends.alone goes_on.events None (whole_log form b goes_on.events goes_on.log)).0

-- ---- weights by the chart, and by its term

module _ (terms : ChartsHaveTerms) (table : Table) (name : List ℕ) (v : NetsValue) (x : Tree) (has : HasTerm table name v x) where
  -- what holds of the chart's term holds of this one
  there : (P : NetsValue → Tree → Type 0) (w : NetsValue) (y : Tree) → HasTerm table name w y → P w y → P v x
  there P w y other p =
      let one = terms.one table name w v y x other.made has.made in
      subst (λ (z : Tree). P v z) one.1 (subst (λ (u : NetsValue). P u y) one.0 p)

  -- the budget holds of the term
  within : (budget : ℕ) (labels : List Label) → IsWithinBudget table name budget labels → WeighsWithin v x budget labels
  within budget labels h = there (λ w y. WeighsWithin w y budget labels) h.tables h.term h.has h.within

  module _ (laws : SetsGoOn) (budget : ℕ) (events : List LineEvent) (stays : (prefix back : List LineEvent) → events ≡ prefix ++ back → IsWithinBudget table name budget (labels_of prefix)) where
    -- what is left after a prefix of the events, and after each of its prefixes
    stays_within : (prefix back : List LineEvent) → events ≡ prefix ++ back → AreWithin v x budget prefix
    stays_within prefix back e f b q =
        within budget (labels_of f) (stays f (b ++ back) (e ∙ ap (λ (es : List LineEvent). es ++ back) q ∙ append_assoc f b back))

    weighs : (prefix back : List LineEvent) (n : ℕ) → events ≡ prefix ++ back → LeavesWeight table name (labels_of prefix) n → Weighs v x budget prefix n
    weighs prefix back n e h = record {
      within = stays_within prefix back e;
      set = h.set;
      are = there (λ w y. AreResiduals w y (labels_of prefix) h.set) h.tables h.term h.has h.are;
      is = h.is;
    }

    largest_weight : (n : ℕ) → IsLargest v x budget events n → IsLargestWeight table name events n
    largest_weight n h = by h.reached
      where
        over : (prefix back : List LineEvent) (m : ℕ) → events ≡ prefix ++ back → LeavesWeight table name (labels_of prefix) m → m ≤ n
        over prefix back m e w = h.bound prefix back m e (weighs prefix back m e w)

        by : IsReached v x budget events n → IsLargestWeight table name events n
        by (by_front prefix back e w) = record {
          prefix = prefix;
          back = back;
          are = e;
          reached = record { tables = v; term = x; has = has; set = w.set; are = w.are; is = w.is };
          bound = over;
        }
        by (by_none more none) =
            let first = within budget [] (stays [] events refl) in
            absurd (omega (arith, first.within, more.above, laws.weight v x [] first.set more.set first.are more.are))

-- the law: where a log conforms, the largest weight is told of the chart
pub largest_told : ChartsHaveTerms → SetsGoOn → LargestIsTold
largest_told terms laws table name form budget bytes count weight on told =
    let same : on.log.events ≡ told.log.events = same_events form bytes on.log told.log in
    let verdict : IsChartVerdict table name budget told.log.events (Conforms count) = told.is.holds in
    largest_weight terms table name on.tables on.term on.has laws budget told.log.events verdict.1 weight
    (subst (λ (es : List LineEvent). IsLargest on.tables on.term budget es weight) same on.largest)

-- what a judge tells of its term, it tells of the chart
pub largest_on : (table : Table) (name : List ℕ) (form : LogForm) (budget : ℕ) (bytes : List ℕ) (judge : JudgeValue PoolValue) (n : ℕ)
    → ((v : NetsValue) (x : Tree) (form : LogForm) (budget : ℕ) (bytes : List ℕ) → Fed holds-value.it v x form budget bytes judge → judge.fault ≡ None → IsLargestOf v x form budget bytes n)
    → IsJudging table name form budget bytes judge → IsLargestOn table name form budget bytes n
largest_on table name form budget bytes judge n tells j =
    let h = tells j.tables j.term form budget bytes j.fed j.faultless in
    record { log = h.log; tables = j.tables; term = j.term; has = j.has; largest = h.largest }
