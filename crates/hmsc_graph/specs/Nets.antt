-- What holds of each graph that is made.
use Rattle.std.specs.Prelude.{ℕ, Bool, List, length, ◌≡◌, ◌<◌, ◌≤◌}
use Rattle.msc_base.specs.declared.limits.TheConstants.Limits.{NODE_LINES}
use Rattle.hmsc_graph.specs.Graphs.{Net, At, behind}
use Rattle.msc_base.specs.Lists.{IsIn}

-- a graph of these parts
abbrev pub graph_of : List ℕ → List (List ℕ) → List Bool → Net
graph_of starts next ends = record { starts = starts; next = next; ends = ends }

-- how many nodes the graph has
abbrev pub size_of : Net → ℕ
size_of g = length g.ends

-- each edge leads to a node
pub record IsNet (g : Net) : Type 0 where
  pub few : size_of g ≤ NODE_LINES
  pub each : length g.next ≡ size_of g
  pub starts_below : (m : ℕ) → IsIn m g.starts → m < size_of g
  pub next_below : (k m : ℕ) → IsIn m (behind g (At k)) → m < size_of g
