-- Serves private contracts alone.
-- A search that keeps how it came to each node.
use Rattle.std.specs.Prelude.{ℕ, ◌≡◌, ◌<◌, ◌+◌, ◌++◌, ◌↔◌, ◌⊎◌, true, List, [], ◌∷◌, Option, Some, None, map, length, slice_get}
use Rattle.bit_sets.specs.NodeSets.{NodeSetValue}
use Rattle.hmsc_graph.specs.Graphs.{Net, Spot, At, Goal, arrives, behind}
use Rattle.hmsc_graph.specs.Nets.{size_of}
use Rattle.hmsc_graph.specs.Searches.{missing}
use Rattle.hmsc_graph.specs.Ways.{IsWay}
use Rattle.hmsc_graph.specs.declared.ways.Step.{Step}
use Rattle.msc_base.specs.Lists.{IsIn}

-- the nodes that the steps come to
abbrev pub nodes_of : List Step → List ℕ
nodes_of steps = map (λ step. step.node) steps

-- the node is behind the spot, or behind the node of one of the first steps, which walks may pass
abbrev pub IsBehind : Net → List ℕ → Spot → List Step → ℕ → Option ℕ → ℕ → Type 0
IsBehind g ks s steps i None m = IsIn m (behind g s)
IsBehind g ks s steps i (Some k) m = (from : Step) × (k < i) × (slice_get steps k ≡ Some from) × IsIn from.node ks × IsIn m (behind g (At from.node))

-- each step comes to a node behind the spot, or behind that of an earlier step
abbrev pub AreSteps : Net → List ℕ → Spot → List Step → Type 0
AreSteps g ks s steps = (i : ℕ) (step : Step) → slice_get steps i ≡ Some step → IsBehind g ks s steps i step.before step.node

-- the index, if there is one, is below the other
abbrev pub IsEarlier : Option ℕ → ℕ → Type 0
IsEarlier None i = Unit {0}
IsEarlier (Some k) i = k < i

-- each step names an earlier one as that before it
abbrev pub AreBack : List Step → Type 0
AreBack steps = (i : ℕ) (step : Step) → slice_get steps i ≡ Some step → IsEarlier step.before i

-- how many steps lead back from that index
abbrev pub steps_back : Option ℕ → ℕ
steps_back None = 0
steps_back (Some i) = i + 1

-- steps were taken to those of the nodes that weren't met
pub record HaveMet (nodes : List ℕ) (before : Option ℕ) (was : NodeSetValue) (had : List Step) (is : NodeSetValue) (have : List Step) : Type 0 where
  pub fresh : List ℕ
  pub size : is.size ≡ was.size
  pub steps : have ≡ had ++ map (λ node. record { node = node; before = before }) fresh
  pub given : (m : ℕ) → IsIn m fresh → IsIn m nodes
  pub met : (m : ℕ) → IsIn m is.nodes ↔ (IsIn m was.nodes ⊎ IsIn m fresh)
  pub all : (m : ℕ) → IsIn m nodes → IsIn m is.nodes
  pub work : missing is.nodes is.size + length fresh ≡ missing was.nodes was.size

-- how far a search from the spot has come, which has gone on behind so many of its steps
pub record IsSearched (g : Net) (ks : List ℕ) (s : Spot) (met : NodeSetValue) (steps : List Step) (count : ℕ) : Type 0 where
  pub size : met.size ≡ size_of g
  pub are : AreSteps g ks s steps
  pub met_nodes : (m : ℕ) → IsIn m met.nodes → IsIn m (nodes_of steps)
  pub begun : (m : ℕ) → IsIn m (behind g s) → IsIn m (nodes_of steps)
  pub followed : (j : ℕ) (from : Step) → j < count → slice_get steps j ≡ Some from → IsIn from.node ks → (m : ℕ) → IsIn m (behind g (At from.node)) → IsIn m (nodes_of steps)

-- the nodes go on to the goal behind this one: it is at the goal, or they are a way from it
abbrev pub LeadTo : Net → List ℕ → Goal → ℕ → List ℕ → Type 0
LeadTo g ks t m [] = arrives g t m ≡ true
LeadTo g ks t m (n ∷ ns) = IsIn m ks × IsWay g ks (At m) t (n ∷ ns)

-- the nodes are the end of a way, behind the step at the index, or the whole
abbrev pub IsEndOfWay : Net → List ℕ → Spot → Goal → List Step → Option ℕ → List ℕ → Type 0
IsEndOfWay g ks s t steps None nodes = IsWay g ks s t nodes
IsEndOfWay g ks s t steps (Some i) nodes = (step : Step) × (slice_get steps i ≡ Some step) × LeadTo g ks t step.node nodes
