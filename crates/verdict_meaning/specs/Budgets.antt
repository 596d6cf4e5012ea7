-- The budget that is never passed.
use Rattle.std.specs.Prelude.{ℕ, ◌+◌, ◌*◌, ◌≤◌, List, length}
use Rattle.msc_base.specs.declared.verdict.Verdict.TheVariants.{TooLarge}
use Rattle.line_events.specs.declared.event.LineEvent.{LineEvent}
use Rattle.chart_term.specs.Terms.{Tree, weight}
use Rattle.term_laws.specs.OneResidual.{IsUnambiguous}
use Rattle.term_tables.specs.NetValues.{NetsValue}
use Rattle.trace_judge.specs.Verdicts.{IsTermVerdict}

-- a budget of 2·(n+1) times the weight of an unambiguous term is never passed by a log of n events
pub record BudgetSuffices : Type 0 where
  pub never : (v : NetsValue) (x : Tree) (budget : ℕ) (events : List LineEvent) (number : ℕ) → IsUnambiguous x → 2 * (length events + 1) * weight x ≤ budget → IsTermVerdict v x budget events (TooLarge number) → ⊥
