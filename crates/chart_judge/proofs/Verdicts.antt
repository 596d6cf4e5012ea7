-- The verdict by what is left of a chart's term, and the verdict by the chart.
use Rattle.std.proofs.Common.{◌≡◌, ℕ, List, [], subst}
use Rattle.msc_base.specs.Only.{Only}
use Rattle.msc_base.specs.declared.label.Label.{Label}
use Rattle.msc_base.specs.declared.verdict.Verdict.{Verdict}
use Rattle.line_events.specs.declared.event.LineEvent.{LineEvent}
use Rattle.msc_meaning.specs.Meanings.{Finished, Begun, Conforms, Begins}
use Rattle.msc_meaning.specs.Tables.{Table}
use Rattle.chart_term.specs.TermPatterns.{Both}
use Rattle.chart_term.specs.Terms.{Tree}
use Rattle.term_tables.specs.NetValues.{NetsValue}
use Rattle.term_laws.specs.Residuals.{res_none}
use Rattle.trace_judge.specs.Laws.{VerdictsTellRuns}
use Rattle.trace_judge.specs.Logs.{BeginsTermRun, WeighsWithin, WeighsMore}
use Rattle.trace_judge.specs.Sets.{IsSoundFor}
use Rattle.trace_judge.specs.Verdicts as residual
use Rattle.trace_judge.specs.Verdicts.{LeavesSome, LeavesEnding}
use Rattle.trace_judge.proofs.RunLaws.{left_exact, ending_exact}
use Rattle.trace_judge.proofs.VerdictMoves.{verdict_moves}
use Rattle.term_meaning.specs.Meanings.{Means}
use Rattle.verdict_meaning.proofs.Meaning.{runs, begins}
use Rattle.chart_judge.specs.ChartVerdicts.{HasTerm, IsWithinBudget, IsAboveBudget, IsChartVerdict}

-- all that is known of the term of the chart of a name
pub record IsKnown (table : Table) (name : List ℕ) (v : NetsValue) (x : Tree) : Type 0 where
  pub has : HasTerm table name v x
  pub one : (w : NetsValue) (y : Tree) → HasTerm table name w y → (w ≡ v) × (y ≡ x)
  pub names : List (List ℕ)
  pub means : Means v names x (Finished table name) (Begun table name)
  pub sound : IsSoundFor v x

-- one account after the other
pub through : {A B C : Type 0} → Both A B → Both B C → Both A C
through f g = record { to = λ a. g.to (f.to a); from = λ c. f.from (g.from c) }

back : {A B : Type 0} → Both A B → Both B A
back f = record { to = f.from; from = f.to }

module _ (table : Table) (name : List ℕ) (v : NetsValue) (x : Tree) (known : IsKnown table name v x) where
  -- ---- what is left, by the chart

  run : (labels : List Label) → Both (LeavesEnding v x labels) (Conforms table name labels)
  run labels = through (ending_exact v x known.sound labels) (runs v known.names x known.means.once (Finished table name) known.means.finished_ones labels)

  begin : (labels : List Label) → Both (LeavesSome v x labels) (Begins table name labels)
  begin labels = through (left_exact v x known.sound labels) (begins v known.names x known.means.once (Begun table name) known.means.all_ones labels)

  pub begin_term : (labels : List Label) → Both (BeginsTermRun v x labels) (Begins table name labels)
  begin_term labels = through (back (left_exact v x known.sound labels)) (begin labels)

  -- no label begins a run
  pub begins_empty : Begins table name []
  begins_empty = (begin []).to (record { term = x; left = record { numbers = []; are = tt; left = res_none } })

  -- ---- the budget

  there : (P : NetsValue → Tree → Type 0) (w : NetsValue) (y : Tree) → HasTerm table name w y → P w y → P v x
  there P w y has p = let one = known.one w y has in subst (λ (z : Tree). P v z) one.1 (subst (λ (u : NetsValue). P u y) one.0 p)

  within_there : (budget : ℕ) (labels : List Label) → IsWithinBudget table name budget labels → WeighsWithin v x budget labels
  within_there budget labels w = there (λ u y. WeighsWithin u y budget labels) w.tables w.term w.has w.within

  within_back : (budget : ℕ) (labels : List Label) → WeighsWithin v x budget labels → IsWithinBudget table name budget labels
  within_back budget labels w = record { tables = v; term = x; has = known.has; within = w }

  above_there : (budget : ℕ) (labels : List Label) → IsAboveBudget table name budget labels → WeighsMore v x budget labels
  above_there budget labels a = there (λ u y. WeighsMore u y budget labels) a.tables a.term a.has a.above

  above_back : (budget : ℕ) (labels : List Label) → WeighsMore v x budget labels → IsAboveBudget table name budget labels
  above_back budget labels a = record { tables = v; term = x; has = known.has; above = a }

  -- ---- verdicts

  pub to_residual : (budget : ℕ) (events : List LineEvent) (verdict : Verdict) → IsChartVerdict table name budget events verdict → residual.IsTermVerdict v x budget events verdict
  to_residual budget events verdict w =
      verdict_moves (Conforms table name) (Begins table name) (LeavesEnding v x) (LeavesSome v x) (λ labels. back (run labels)) (λ labels. back (begin labels)) events
      (IsWithinBudget table name budget) (IsAboveBudget table name budget) (WeighsWithin v x budget) (WeighsMore v x budget)
      (within_there budget) (above_there budget) verdict w

  from_residual : (budget : ℕ) (events : List LineEvent) (verdict : Verdict) → residual.IsTermVerdict v x budget events verdict → IsChartVerdict table name budget events verdict
  from_residual budget events verdict w =
      verdict_moves (LeavesEnding v x) (LeavesSome v x) (Conforms table name) (Begins table name) run begin events
      (WeighsWithin v x budget) (WeighsMore v x budget) (IsWithinBudget table name budget) (IsAboveBudget table name budget)
      (within_back budget) (above_back budget) verdict w

  pub told : VerdictsTellRuns → (budget : ℕ) (events : List LineEvent) (verdict : Verdict) → residual.IsTermVerdict v x budget events verdict → Only (IsChartVerdict table name budget events) verdict
  told laws budget events verdict w = record {
    holds = from_residual budget events verdict w;
    alone = λ other o. laws.one v x budget events other verdict (to_residual budget events other o) w;
  }
