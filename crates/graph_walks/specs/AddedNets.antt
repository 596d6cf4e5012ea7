-- What the code says of the net of a graph that it adds, and of the walks through it.
use Rattle.std.specs.Prelude.{ℕ, ◌≡◌, false, List, Some, None}
use Rattle.hmsc_graph.specs.Graphs.{Net, End, Any}
use Rattle.chart_term.specs.Tables.{net_count}
use Rattle.chart_term.specs.Terms.{Tree}
use Rattle.term_tables.specs.NetValues.{NetsValue}
use Rattle.term_laws.specs.FullSoundness.{fresh_walk}
use Rattle.term_permission.specs.Fresh.{IsUnreached}
use Rattle.msc_tree.specs.Graphs.{Graph, graph}
use Rattle.msc_meaning.specs.ChartUnfoldings.{OfWalk}
use Rattle.msc_meaning.specs.Tables.{Table}
use Rattle.graph_shapes.specs.GraphNets.{IsNetOfGraph, lines_of}
use Rattle.graph_walks.specs.NodeTerms.{AreFitNodes, IsNodeTerm, IsGraphTerm, with_net}

-- the graph's net, with these terms of its nodes, was added to the tables
pub record IsAdded (drawn : Graph) (nodes : List Tree) (v w : NetsValue) : Type 0 where
  pub net : Net
  pub is : w ≡ with_net v (record { net = net; nodes = nodes })
  pub of_graph : IsNetOfGraph drawn net

-- the term of the graph, if it is judged
abbrev pub IsJudgedTerm : Table → (ℕ → List ℕ) → NetsValue → List (List ℕ) → ℕ → ℕ → Tree → Graph → Type 0
IsJudgedTerm table places v names lo hi x (graph starts lines) = IsGraphTerm table places v names lo hi x starts lines

-- the term of the graph, if it is referred to, or is a frame: its finished walks
abbrev pub IsClosedTerm : Table → (ℕ → List ℕ) → NetsValue → List (List ℕ) → ℕ → ℕ → Tree → Graph → Type 0
IsClosedTerm table places v names lo hi x (graph starts lines) = IsNodeTerm places v names lo hi x (OfWalk table false lines starts)

-- the graph's net was added, and the term is that of the graph, judged, whatever table, names and numbers the terms of its nodes fit
pub record IsJudged (drawn : Graph) (nodes : List Tree) (v w : NetsValue) (x : Tree) : Type 0 where
  pub added : IsAdded drawn nodes v w
  pub walk : fresh_walk w.tables (net_count v.tables) Any ≡ Some x
  pub means : (table : Table) (places : ℕ → List ℕ) (names : List (List ℕ)) (lo hi : ℕ) → AreFitNodes table places v names lo hi nodes (lines_of drawn) → IsJudgedTerm table places w names lo hi x drawn

-- the same of a graph that is referred to, or is a frame
pub record IsClosed (drawn : Graph) (nodes : List Tree) (v w : NetsValue) (x : Tree) : Type 0 where
  pub added : IsAdded drawn nodes v w
  pub walk : fresh_walk w.tables (net_count v.tables) End ≡ Some x
  pub means : (table : Table) (places : ℕ → List ℕ) (names : List (List ℕ)) (lo hi : ℕ) → AreFitNodes table places v names lo hi nodes (lines_of drawn) → IsClosedTerm table places w names lo hi x drawn

-- the graph's net was added, and no walk through it leads to an end
pub record LeadsToNoEnd (drawn : Graph) (nodes : List Tree) (v w : NetsValue) : Type 0 where
  pub added : IsAdded drawn nodes v w
  pub walk : fresh_walk w.tables (net_count v.tables) End ≡ None
  pub none : IsUnreached w.tables (net_count v.tables) End
