-- Serves private contracts alone.
-- What was found of some terms, by the number of the label.
use Rattle.std.specs.Prelude.{ℕ, List, [], ◌≡◌, ◌≤◌, ◌<◌}
use Rattle.msc_base.specs.Lists.{IsAmong}
use Rattle.chart_term.specs.Tables.{Tables}
use Rattle.chart_term.specs.Terms.{Tree}
use Rattle.term_laws.specs.Listing.{set_weight}
use Rattle.term_permission.specs.Ready.{IsReady}
use Rattle.term_step.specs.Searches.{IsResult, IsTally}
use Rattle.term_step.specs.declared.found.Found.{Found}

-- z is left of one of the terms
pub record IsResultOf (w : Tables) (a : ℕ) (terms : List Tree) (z : Tree) : Type 0 where
  pub term : Tree
  pub held : IsAmong terms term
  pub result : IsResult w a [] term z

-- exactly what is left of the terms was found, and it isn't too heavy
pub record IsGathered (w : Tables) (a most : ℕ) (terms : List Tree) (found : Found) : Type 0 where
  pub tally : IsTally found
  pub most_is : found.most ≡ most
  pub within : set_weight found.terms.keys ≤ most
  pub each : (z : Tree) → IsAmong found.terms.keys z → IsResultOf w a terms z
  pub whole : (z : Tree) → IsResultOf w a terms z → IsAmong found.terms.keys z
  pub ready : (z : Tree) → IsAmong found.terms.keys z → IsReady w z

-- what was found is too heavy
pub record IsTooMuch (w : Tables) (a most : ℕ) (terms : List Tree) (found : Found) : Type 0 where
  pub tally : IsTally found
  pub each : (z : Tree) → IsAmong found.terms.keys z → IsResultOf w a terms z
  pub above : most < set_weight found.terms.keys
