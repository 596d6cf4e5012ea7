-- Walks as the nodes that they come to.
use Rattle.std.specs.Prelude.{ℕ, ◌≡◌, List, [], ◌∷◌}
use Rattle.hmsc_graph.specs.Graphs.{Net, Spot, Goal, WalkThrough, last, step}

-- the nodes of a walk, in their order
abbrev pub nodes_on : {g : Net} {ks : List ℕ} {s : Spot} {t : Goal} → WalkThrough g ks s t → List ℕ
nodes_on (last m i a) = m ∷ []
nodes_on (step m i j w) = m ∷ nodes_on w

-- these are the nodes of a walk, in their order
abbrev pub IsWay : Net → List ℕ → Spot → Goal → List ℕ → Type 0
IsWay g ks s t nodes = (w : WalkThrough g ks s t) × (nodes_on w ≡ nodes)
