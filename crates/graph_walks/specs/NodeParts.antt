-- Lists of node terms, for the parts of an expression, and tables that have grown.
use Rattle.std.specs.Prelude.{ℕ, ◌≡◌, ◌≤◌, List, [], ◌∷◌}
use Rattle.msc_unfolding.specs.Unfoldings.{Unfolding}
use Rattle.term_tables.specs.NetValues.{NetsValue}
use Rattle.chart_term.specs.Terms.{Tree}
use Rattle.term_meaning.specs.Extending.{Extends}
use Rattle.graph_walks.specs.NodeTerms.{AreFitTables, IsNodeTerm}

-- the tables have newer nets, and the same labels; they are fit
pub record HaveGrown (places : ℕ → List ℕ) (v w : NetsValue) (names : List (List ℕ)) : Type 0 where
  pub labels : w.labels ≡ v.labels
  pub tables : Extends v.tables w.tables
  pub fit : AreFitTables places w names

module _ {Part : Type 0} (OfPart : Part → Unfolding → Type 0) where
  -- one term for each part; all have numbers of this interval, and may share them
  pub data AreParts (places : ℕ → List ℕ) (v : NetsValue) (names : List (List ℕ)) (lo hi : ℕ) : List Tree → List Part → Type 0 where
    no_parts : lo ≤ hi → AreParts places v names lo hi [] []
    parts_and : {x : Tree} {xs : List Tree} {i : Part} {is : List Part} → IsNodeTerm places v names lo hi x (OfPart i) → AreParts places v names lo hi xs is → AreParts places v names lo hi (x ∷ xs) (i ∷ is)
