-- Terms that are sound in full, and their tables, are ready: permission and taking can be computed of them.
use Rattle.std.specs.Prelude.{ℕ}
use Rattle.chart_term.specs.Tables.{Tables}
use Rattle.chart_term.specs.Terms.{Tree}
use Rattle.term_laws.specs.FullSoundness.{IsFullySound}
use Rattle.term_permission.specs.Ready.{IsReady, AreReadyTables}

-- a sound term is within the tables and in normal form, and so are the node terms of each net, one for each node
pub record ReadyBySoundness : Type 0 where
  pub term : (labels : ℕ) (w : Tables) (x : Tree) → IsFullySound labels w x → IsReady w x
  pub tables : (labels : ℕ) (w : Tables) (x : Tree) → IsFullySound labels w x → AreReadyTables w
