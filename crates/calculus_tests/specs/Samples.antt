-- Serves private contracts alone.
-- The terms and tables that the tests step.
use Rattle.std.specs.Prelude.{ℕ, ◌%◌, List, [], ◌∷◌}
use Rattle.chart_term.specs.Tables.{Tables}
use Rattle.chart_term.specs.Terms.{Tree}
use Rattle.term_laws.specs.Placing.{AreEventsPlaced, AreNetsPlaced}
use Rattle.term_permission.specs.Ready.{IsReady, AreReadyTables}

-- labels are of instances 0 and 1 in turn
abbrev pub places : ℕ → List ℕ
places label = label % 2 ∷ []

-- the term is ready over the tables, and its events are at the instances of their labels
pub record IsSample (w : Tables) (x : Tree) : Type 0 where
  pub ready : IsReady w x
  pub placed : AreEventsPlaced places x

-- so are the node terms of each net
pub record AreSampleTables (w : Tables) : Type 0 where
  pub ready : AreReadyTables w
  pub placed : AreNetsPlaced places w
