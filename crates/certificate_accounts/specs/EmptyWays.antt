-- Walks through nodes without events, by the nodes of a walk through a net's graph.
use Rattle.std.specs.Prelude.{ℕ, List, [], ◌∷◌}
use Rattle.msc_base.specs.Lists.{IsIn}
use Rattle.hmsc_graph.specs.Graphs.{Spot, Goal, behind, WalkThrough}
use Rattle.hmsc_graph.specs.Ways.{IsWay}
use Rattle.chart_term.specs.Tables.{Tables, net_of, node_of, terms_over}
use Rattle.chart_term.specs.TermMeanings.{aim}
use Rattle.chart_term.specs.Terms.{TermEvent}
use Rattle.certificates.specs.Certificates.{HasEmpty}
use Rattle.certificate_accounts.specs.Accounts.{nothing, Visits, arrived, visit}
use Rattle.certificate_accounts.specs.AccountLaws.{FindsWays}

-- no event at any of these nodes; the walk arrives at the last
abbrev pub silent : List ℕ → Visits
silent [] = arrived 0
silent (m ∷ []) = arrived m
silent (m ∷ k ∷ ms) = visit m nothing (silent (k ∷ ms))

-- of each net the nodes whose terms have a finished pattern without events, as far as edges lead to them
pub record AreEmptyNodes (w : Tables) (allowed : ℕ → List ℕ) : Type 0 where
  pub empty : (n m : ℕ) → IsIn m (allowed n) → HasEmpty (terms_over w) (node_of w n m)
  pub all : (n m : ℕ) (f : Spot) → IsIn m (behind (net_of w n) f) → HasEmpty (terms_over w) (node_of w n m) → IsIn m (allowed n)

-- where a walk through such nodes is found wherever there is one, walks without events are
pub record WaysAreFound : Type 0 where
  pub finds : (w : Tables) (ev : ℕ → TermEvent) (allowed : ℕ → List ℕ) (way : ℕ → Spot → Goal → List ℕ) → AreEmptyNodes w allowed
      → ((n : ℕ) (f : Spot) (t : Goal) → WalkThrough (net_of w n) (allowed n) f (aim t) → IsWay (net_of w n) (allowed n) f (aim t) (way n f t))
      → FindsWays w ev (λ n f t. silent (way n f t))
