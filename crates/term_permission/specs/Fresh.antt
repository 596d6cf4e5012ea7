-- Loops and walks as they begin.
use Rattle.std.specs.Prelude.{ℕ, [], ◌∷◌, ◌≡◌, ◌<◌, ◌≤◌, ◌⊎◌, Option, Some, None}
use Rattle.hmsc_graph.specs.Graphs.{Start, Goal, To, End, Any, WalkThrough}
use Rattle.chart_term.specs.NormalForms.{only, loop_of}
use Rattle.chart_term.specs.Tables.{Tables, net_of, nodes_of}
use Rattle.chart_term.specs.Terms.{Tree, Nil, Gap}
use Rattle.chart_term.specs.TermMeanings.{UpTo}
use Rattle.chart_term.specs.Spreads.{touch}
use Rattle.term_laws.specs.Permission.{permit, permits_of}

-- the loop in normal form whose row is one gap where any turn may begin; Nil where its counts allow no number of turns
pub record IsFreshLoop (w : Tables) (x : Tree) (lo : ℕ) (hi : Option ℕ) (y : Tree) : Type 0 where
  pub loop : UpTo hi lo → loop_of (λ c. permit (permits_of w) (only c) x) (touch (permits_of w).spread x) x lo hi (Gap [] ∷ []) ≡ Some y
  pub crossed : (UpTo hi lo → ⊥) → y ≡ Nil

-- the counts allow a turn
abbrev pub MayTurn : ℕ → Option ℕ → Type 0
MayTurn lo None = Unit {0}
MayTurn lo (Some n) = (0 < n) × (lo ≤ n)

-- the counts allow no turn
abbrev pub MayNotTurn : ℕ → Option ℕ → Type 0
MayNotTurn lo None = ⊥
MayNotTurn lo (Some n) = (n ≡ 0) ⊎ (n < lo)

-- a walk that isn't under way
abbrev pub IsAimed : Goal → Type 0
IsAimed (To m) = Unit {0}
IsAimed End = Unit {0}
IsAimed Any = ⊥

-- no walk leads there from the start
pub record IsUnreached (w : Tables) (n : ℕ) (t : Goal) : Type 0 where
  pub aimed : IsAimed t
  pub none : WalkThrough (net_of w n) (nodes_of w n) Start t → ⊥
