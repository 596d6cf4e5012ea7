-- Walks without events.
use Rattle.std.specs.Prelude.{ℕ, List}
use Rattle.hmsc_graph.specs.Graphs.{Start, End, WalkThrough}
use Rattle.msc_base.specs.Lists.{IsIn}
use Rattle.chart_term.specs.TermMeanings.{NetTerms}
use Rattle.certificates.specs.Certificates.{HasEmpty}

-- a walk from the start to an end, all inner nodes of which can be without events
pub record HasEmptyWalk (w : NetTerms) (n : ℕ) : Type 0 where
  pub passed : List ℕ
  pub empty : (m : ℕ) → IsIn m passed → HasEmpty w (w.node n m)
  pub walk : WalkThrough (w.net n) passed Start End
