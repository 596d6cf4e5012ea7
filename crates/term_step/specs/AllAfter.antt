-- What is left of some terms after an event with a given label.
use Rattle.std.specs.Prelude.{ℕ, List, ◌≤◌, ◌<◌}
use Rattle.msc_base.specs.declared.label.Label.{Label}
use Rattle.msc_base.specs.Lists.{IsAmong}
use Rattle.term_tables.specs.NetValues.{NetsValue}
use Rattle.chart_term.specs.TermPatterns.{Both}
use Rattle.chart_term.specs.Terms.{Tree}
use Rattle.term_laws.specs.Listing.{set_weight}
use Rattle.term_laws.specs.Normality.{AreDifferent}
use Rattle.term_successors.specs.Successors.{IsLeftOf}

-- the list has exactly what is left of the terms, each once, and weighs no more than `most`
pub record AreAllLeft (v : NetsValue) (label : Label) (terms : List Tree) (most : ℕ) (found : List Tree) : Type 0 where
  pub different : AreDifferent found
  pub exact : (y : Tree) → Both (IsAmong found y) (IsLeftOf v label terms y)
  pub within : set_weight found ≤ most

-- some of what is left of the terms weighs more than `most`
pub record AreTooMany (v : NetsValue) (label : Label) (terms : List Tree) (most : ℕ) : Type 0 where
  pub some : List Tree
  pub different : AreDifferent some
  pub each : (y : Tree) → IsAmong some y → IsLeftOf v label terms y
  pub above : most < set_weight some
