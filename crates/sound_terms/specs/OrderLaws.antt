-- Linear orders of a term's pattern: from ranks of its positions, and from blocks of them.
use Rattle.std.specs.Prelude.{ℕ, ◌<◌, ◌≤◌, ◌≡◌, List}
use Rattle.msc_base.specs.Orders.{Among, Once, Kept}
use Rattle.msc_base.specs.Patterns.{Mode, Position, Before, join}
use Rattle.chart_term.specs.TermPatterns.{Shape, numbered}
use Rattle.chart_term.specs.TermRuns.{Runs}
use Rattle.term_laws.specs.Sound.{HasOrder}

-- an arrangement of those positions alone, each once, that keeps the pairs
pub record IsLinearOn {P : Type 0} (B : P → P → Type 0) (In : P → Type 0) (l : List P) : Type 0 where
  pub every : (p : P) → In p → Among p l
  pub only : (p : P) → Among p l → In p
  pub once : Once l
  pub kept : Kept B l

-- a list of these positions
pub record HasLinearOn {P : Type 0} (B : P → P → Type 0) (In : P → Type 0) : Type 0 where
  pub list : List P
  pub linear : IsLinearOn B In list

-- a pattern has a linear order where the pairs rise in rank; or where they never fall in block, and each block by itself has one;
-- and where it has a run by taking out. A join of patterns with runs has one
pub record OrdersFound : Type 0 where
  pub ranked : (s : Shape) (rank : Position s → ℕ) → ((i j : Position s) → Before numbered s i j → rank i < rank j) → HasOrder s
  pub blocks : (s : Shape) (block : Position s → ℕ) → ((i j : Position s) → Before numbered s i j → block i ≤ block j)
      → ((n : ℕ) → HasLinearOn (Before numbered s) (λ p. block p ≡ n)) → HasOrder s
  pub run : (s : Shape) (run : List ℕ) → Runs s run → HasOrder s
  pub join : (m : Mode) (s t : Shape) → HasOrder s → HasOrder t → HasOrder (join m s t)
