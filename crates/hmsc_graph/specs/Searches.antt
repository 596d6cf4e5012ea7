-- A search for the nodes that walks reach: what was met, and what waits to be looked at.
use Rattle.std.specs.Prelude.{ℕ, zero, suc, ◌≡◌, ◌≤◌, ◌<◌, ◌+◌, ◌==◌, ◌⊎◌, true, List, Option, Some, None, length, if◌then◌else◌}
use Rattle.std.specs.List.{list_any}
use Rattle.hmsc_graph.specs.Graphs.{Net, Spot, At, Goal, To, WalkThrough, arrives, behind}
use Rattle.msc_base.specs.Lists.{IsIn}
use Rattle.bit_sets.specs.NodeSets.{NodeSetValue}

-- how many of the first numbers the list lacks
abbrev pub missing : List ℕ → ℕ → ℕ
missing nodes zero = 0
missing nodes (suc n) = (if list_any (λ m. m == n) nodes then 0 else 1) + missing nodes n

-- the nodes have been entered: they are reached, and the new ones wait
pub record HasEntered (nodes : List ℕ) (was : NodeSetValue) (waited : List ℕ) (is : NodeSetValue) (waits : List ℕ) : Type 0 where
  pub size : is.size ≡ was.size
  pub kept : (m : ℕ) → IsIn m was.nodes → IsIn m is.nodes
  pub entered : (m : ℕ) → IsIn m nodes → IsIn m is.nodes
  pub only : (m : ℕ) → IsIn m is.nodes → IsIn m was.nodes ⊎ IsIn m nodes
  pub waiting : (m : ℕ) → IsIn m waited → IsIn m waits
  pub fresh : (m : ℕ) → IsIn m is.nodes → IsIn m was.nodes ⊎ IsIn m waits
  pub due : (m : ℕ) → IsIn m waits → IsIn m waited ⊎ IsIn m is.nodes
  pub work : missing is.nodes is.size + length waits ≤ missing was.nodes was.size + length waited

-- how far a search from a spot has come
pub record IsSearch (g : Net) (allowed : List ℕ) (from : Spot) (reached waits : List ℕ) : Type 0 where
  pub sound : (m : ℕ) → IsIn m reached → WalkThrough g allowed from (To m)
  pub begun : (m : ℕ) → IsIn m (behind g from) → IsIn m reached
  pub due : (m : ℕ) → IsIn m waits → IsIn m reached
  pub done : (k : ℕ) → IsIn k reached → IsIn k allowed → IsIn k waits ⊎ ((m : ℕ) → IsIn m (behind g (At k)) → IsIn m reached)

-- the first number below the size that the first list has and the second lacks, where there is one
abbrev pub IsFirstLost : ℕ → List ℕ → List ℕ → Option ℕ → Type 0
IsFirstLost size reached ending (Some node) = (node < size) × IsIn node reached × (IsIn node ending → ⊥) × ((m : ℕ) → m < node → IsIn m reached → IsIn m ending)
IsFirstLost size reached ending None = (m : ℕ) → m < size → IsIn m reached → IsIn m ending

-- the number is below the size, and the first list has it and the second lacks it
abbrev pub IsLost : ℕ → List ℕ → List ℕ → ℕ → Type 0
IsLost size reached ending node = (node < size) × IsIn node reached × (IsIn node ending → ⊥)

-- a walk that comes to the node is at the goal, or may go on to it
abbrev pub LeadsOn : Net → ℕ → List ℕ → List ℕ → Goal → Type 0
LeadsOn g m allowed leading t = (arrives g t m ≡ true) ⊎ (IsIn m allowed × IsIn m leading)

-- so does one that comes to one of these nodes
abbrev pub OneLeads : Net → List ℕ → List ℕ → List ℕ → Goal → Type 0
OneLeads g nodes allowed leading t = (m : ℕ) × IsIn m nodes × LeadsOn g m allowed leading t
