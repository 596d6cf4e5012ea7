-- What a log is for a chart of a table.
use Rattle.std.specs.Prelude.{◌≡◌, ℕ, List, Some}
use Rattle.msc_base.specs.declared.label.Label.{Label}
use Rattle.msc_base.specs.declared.verdict.Verdict.{Verdict}
use Rattle.line_events.specs.declared.event.LineEvent.{LineEvent}
use Rattle.msc_meaning.specs.Meanings.{Conforms, Begins}
use Rattle.msc_meaning.specs.Tables.{ChartEntry, Table, chart_at}
use Rattle.chart_term.specs.Terms.{Tree}
use Rattle.term_tables.specs.NetValues.{NetsValue}
use Rattle.trace_judge.specs.Logs.{WeighsWithin, WeighsMore}
use Rattle.trace_judge.specs.VerdictsBy as by
use Rattle.table_terms.specs.TableTerms.{IsTermOf}

-- the chart of that name has this term, over these tables
pub record HasTerm (table : Table) (name : List ℕ) (v : NetsValue) (x : Tree) : Type 0 where
  pub chart : ChartEntry
  pub is : chart_at table name ≡ Some chart
  pub made : IsTermOf table name v x

-- what is left of the chart's term after these labels weighs no more than the budget
pub record IsWithinBudget (table : Table) (name : List ℕ) (budget : ℕ) (labels : List Label) : Type 0 where
  pub tables : NetsValue
  pub term : Tree
  pub has : HasTerm table name tables term
  pub within : WeighsWithin tables term budget labels

-- it weighs more
pub record IsAboveBudget (table : Table) (name : List ℕ) (budget : ℕ) (labels : List Label) : Type 0 where
  pub tables : NetsValue
  pub term : Tree
  pub has : HasTerm table name tables term
  pub above : WeighsMore tables term budget labels

-- the verdict on the events of a log by the chart of that name, within the budget
abbrev pub IsChartVerdict : Table → List ℕ → ℕ → List LineEvent → Verdict → Type 0
IsChartVerdict table name budget events verdict = by.IsVerdict (IsWithinBudget table name budget) (IsAboveBudget table name budget) (Conforms table name) (Begins table name) events verdict
