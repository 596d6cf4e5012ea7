-- Serves private contracts alone.
-- The terms that the tests step.
use Rattle.std.specs.Prelude.{ℕ, List, [], ◌∷◌}
use Rattle.chart_term.specs.Terms.{Tree}
use Rattle.term_laws.specs.FullSoundness.{IsSoundNode}
use Rattle.term_laws.specs.Placing.{AreEventsPlaced}

-- both labels are of instance 0
abbrev pub places : ℕ → List ℕ
places n = 0 ∷ []

-- the term is sound in full over both labels, and its events are at the instances of their labels
pub record IsSample (x : Tree) : Type 0 where
  pub sound : IsSoundNode 2 [] x
  pub placed : AreEventsPlaced places x
