-- Sets of residual terms, and how one event changes them.
use Rattle.std.specs.Prelude.{ℕ, ◌≡◌, ◌≤◌, ◌<◌, ◌⊎◌, Bool, true, false, List, length}
use Rattle.msc_base.specs.declared.limits.TheConstants.Limits.{BUDGET_MOST}
use Rattle.msc_base.specs.declared.label.Label.{Label}
use Rattle.term_tables.specs.NetValues.{NetsValue}
use Rattle.chart_term.specs.Properties.{Each}
use Rattle.chart_term.specs.Tables.{terms_over}
use Rattle.chart_term.specs.TermPatterns.{Both}
use Rattle.chart_term.specs.Terms.{Tree}
use Rattle.term_laws.specs.FullSoundness.{IsFullySound}
use Rattle.term_laws.specs.Listing.{set_weight}
use Rattle.term_laws.specs.Placing.{HaveOnePlace}
use Rattle.msc_base.specs.Lists.{IsAmong}
use Rattle.term_laws.specs.Normality.{AreDifferent}
use Rattle.term_successors.specs.Successors.{AreRising, IsLeftOf}
use Rattle.term_laws.specs.Taking.{MayEnd}

-- a set: the terms held, their budget, and whether the budget was passed
pub record SetValue : Type 0 where
  pub terms : List Tree
  pub budget : ℕ
  pub too_large : Bool

-- the term fits the tables, and is sound in full for them; its events of one label have the same instances
pub record IsSoundFor (v : NetsValue) (x : Tree) : Type 0 where
  pub full : IsFullySound (length v.labels) v.tables x
  pub placed : HaveOnePlace v.tables x

-- the set serves the tables: each of its terms is sound for them; the terms rise, so that each is held once; they are within the budget
pub record IsServing (v : NetsValue) (s : SetValue) : Type 0 where
  pub sound : Each (IsSoundFor v) s.terms
  pub rising : AreRising s.terms
  pub within : set_weight s.terms ≤ s.budget
  pub most : s.budget ≤ BUDGET_MOST

-- the list has exactly what is left of the terms after an event with the label, each once
pub record AreSuccessors (v : NetsValue) (label : Label) (terms next : List Tree) : Type 0 where
  pub different : AreDifferent next
  pub exact : (y : Tree) → Both (IsAmong next y) (IsLeftOf v label terms y)

-- something is left of the terms after an event with the label
pub record GoesOnWith (v : NetsValue) (label : Label) (terms : List Tree) : Type 0 where
  pub term : Tree
  pub left : IsLeftOf v label terms term

-- all that is left of the terms weighs more than the budget
pub record PassBudget (v : NetsValue) (label : Label) (terms : List Tree) (budget : ℕ) : Type 0 where
  pub next : List Tree
  pub are : AreSuccessors v label terms next
  pub above : budget < set_weight next

-- the set before and after an event with the label
pub record IsNextSet (v : NetsValue) (label : Label) (old new : SetValue) : Type 0 where
  pub small : old.too_large ≡ false
  pub terms : AreSuccessors v label old.terms new.terms
  pub within : set_weight new.terms ≤ old.budget
  pub same_budget : new.budget ≡ old.budget
  pub stays_small : new.too_large ≡ false

-- the budget is passed at an event with the label, or was passed before; the set keeps its terms
pub record IsTooLarge (v : NetsValue) (label : Label) (old new : SetValue) : Type 0 where
  pub why : (old.too_large ≡ true) ⊎ PassBudget v label old.terms old.budget
  pub is : new ≡ record old { too_large = true }

-- one of the terms may end
pub record HasEnding (v : NetsValue) (terms : List Tree) : Type 0 where
  pub term : Tree
  pub held : IsAmong terms term
  pub ends : MayEnd (terms_over v.tables) term
