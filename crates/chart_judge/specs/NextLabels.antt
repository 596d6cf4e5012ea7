-- Which labels may come next in a log.
use Rattle.std.specs.Prelude.{ℕ, ◌≡◌, false, List, [], ◌∷◌, ◌++◌, Some, None}
use Rattle.msc_base.specs.Only.{Only}
use Rattle.msc_base.specs.declared.label.Label.{Label}
use Rattle.msc_base.specs.declared.verdict.Verdict.{Verdict}
use Rattle.msc_base.specs.declared.verdict.Verdict.TheVariants.{Conforms, Fails, Early, TooLarge}
use Rattle.msc_acceptance.specs.AcceptedCharts.{IsAcceptedTable}
use Rattle.msc_meaning.specs.Meanings.{Begins}
use Rattle.msc_meaning.specs.Tables.{ChartEntry, Table, chart_at}
use Rattle.chart_term.specs.TermPatterns.{Both}
use Rattle.chart_term.specs.Terms.{Tree}
use Rattle.event_log.specs.States.{IsFaultOf}
use Rattle.event_log.specs.declared.event.LogForm.{LogForm}
use Rattle.table_terms.specs.TableTerms.{IsTermOf}
use Rattle.term_tables.specs.NetValues.{NetsValue}
use Rattle.trace_judge.specs.Logs.{labels_of, BeginsTermRun}
use Rattle.trace_judge.specs.Verdicts.{IsTermVerdict}
use Rattle.next_labels.specs.NextLabels.{AreAll}
use Rattle.chart_judge.specs.ChartVerdicts.{IsChartVerdict}
use Rattle.chart_judge.specs.declared.next.Next.{Next}

-- the labels that are told beside a verdict: where the log may go on, exactly those with which what is begun by its labels still begins so;
-- else none
abbrev pub AreBeside : Verdict → (List Label → Type 0) → List Label → List Label → Type 0
AreBeside (Conforms count) Begins labels next = AreAll (λ a. Begins (labels ++ a ∷ [])) next
AreBeside (Fails number line) Begins labels next = next ≡ []
AreBeside (Early count) Begins labels next = AreAll (λ a. Begins (labels ++ a ∷ [])) next
AreBeside (TooLarge number) Begins labels next = next ≡ []

-- the bytes are a log; this is the one verdict on its events by the chart of that name, and these are the labels that may come next
pub record IsNextOn (table : Table) (name : List ℕ) (form : LogForm) (budget : ℕ) (bytes : List ℕ) (next : Next) : Type 0 where
  pub log : IsFaultOf form false bytes None
  pub verdict : Only (IsChartVerdict table name budget log.events) next.verdict
  pub labels : Only (AreBeside next.verdict (Begins table name) (labels_of log.events)) next.labels

-- the same by the term
pub record IsTermNext (v : NetsValue) (x : Tree) (form : LogForm) (budget : ℕ) (bytes : List ℕ) (next : Next) : Type 0 where
  pub log : IsFaultOf form false bytes None
  pub verdict : IsTermVerdict v x budget log.events next.verdict
  pub labels : AreBeside next.verdict (BeginsTermRun v x) (labels_of log.events) next.labels

-- a run of a chart's term begins with the labels exactly where one of the chart does
abbrev pub BeginningsAreTold : Type 0
BeginningsAreTold = (table : Table) (name : List ℕ) (chart : ChartEntry) (v : NetsValue) (x : Tree) → chart_at table name ≡ Some chart → IsAcceptedTable table → IsTermOf table name v x
    → (labels : List Label) → Both (BeginsTermRun v x labels) (Begins table name labels)
