-- Graphs whose edges lead the other way.
use Rattle.std.specs.Prelude.{ℕ, ◌≡◌, ◌<◌, ◌↔◌, ◌⊎◌, true, false, Bool, List, [], get_or, length, replicate}
use Rattle.hmsc_graph.specs.Graphs.{Net, At, Goal, End, behind, arrives}
use Rattle.msc_base.specs.Lists.{IsIn}
use Rattle.hmsc_graph.specs.Nets.{IsNet, graph_of, size_of}

-- the graph of these edges, which starts there and has no `end` line
abbrev pub way_of : List ℕ → List (List ℕ) → Net
way_of starts next = graph_of starts next (replicate (length next) false)

-- each node has the nodes below the count behind which it comes next
abbrev pub AreEdgesBack : List (List ℕ) → ℕ → List (List ℕ) → Type 0
AreEdgesBack next count back = (m n : ℕ) → IsIn m (get_or back n []) ↔ ((m < count) × IsIn n (get_or next m []))

-- the node has been added to the lists of these nodes
pub record HasEdges (was : List (List ℕ)) (node : ℕ) (next : List ℕ) (is : List (List ℕ)) : Type 0 where
  pub each : length is ≡ length was
  pub edges : (m n : ℕ) → IsIn m (get_or is n []) ↔ (IsIn m (get_or was n []) ⊎ ((m ≡ node) × IsIn n next))

-- one of the nodes is an `end` line
abbrev pub HasEnd : List Bool → List ℕ → Type 0
HasEnd ends nodes = (n : ℕ) × IsIn n nodes × (get_or ends n false ≡ true)

-- the nodes behind which the goal comes next
abbrev pub AreBefore : Net → Goal → List ℕ → Type 0
AreBefore g t nodes = (m : ℕ) → IsIn m nodes ↔ ((n : ℕ) × IsIn n (behind g (At m)) × (arrives g t n ≡ true))

-- what is stored of a graph: its edges the other way, and the nodes before its ends
pub record IsStored (g : Net) (back : List (List ℕ)) (before_ends : List ℕ) : Type 0 where
  pub net : IsNet g
  pub each : length back ≡ size_of g
  pub edges : AreEdgesBack g.next (size_of g) back
  pub ends : AreBefore g End before_ends
