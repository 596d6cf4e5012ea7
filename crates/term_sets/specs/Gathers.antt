-- Terms that are gathered up to a budget.
use Rattle.std.specs.Prelude.{ℕ, ◌≤◌, ◌⊎◌, List, [], Option, MatchOption}
use Rattle.msc_base.specs.declared.label.Label.{Label}
use Rattle.msc_base.specs.Lists.{IsAmong}
use Rattle.chart_term.specs.TermPatterns.{Both}
use Rattle.chart_term.specs.Terms.{Tree}
use Rattle.term_laws.specs.Listing.{set_weight}
use Rattle.term_successors.specs.Successors.{IsLeftOf}
use Rattle.term_tables.specs.NetValues.{NetsValue}
use Rattle.trace_judge.specs.Sets.{PassBudget}

-- the list gains exactly the terms with the property, and stays within the budget
pub record JoinsAll (P : Tree → Type 0) (budget : ℕ) (old new : List Tree) : Type 0 where
  pub exact : (y : Tree) → Both (IsAmong new y) (IsAmong old y ⊎ P y)
  pub within : set_weight new ≤ budget

-- all that is left of the terms after an event with the label; or there is none, since that weighs more than the budget
abbrev pub IsGathered : NetsValue → Label → List Tree → ℕ → Option (List Tree) → Type 0
IsGathered v label terms budget found = MatchOption found (PassBudget v label terms budget) (λ all. JoinsAll (IsLeftOf v label terms) budget [] all)
