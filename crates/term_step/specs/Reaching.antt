-- Serves private contracts alone.
-- The nodes of a walk that a search leaves out, as the walk doesn't reach them while nothing happens at the instances of the event that was
-- met.
use Rattle.std.specs.Prelude.{ℕ, Bool, true, List, ◌≡◌, ◌⊎◌, Option, Some, None}
use Rattle.bit_sets.specs.NodeSets.{NodeSetValue}
use Rattle.chart_term.specs.NormalForms.{allowed}
use Rattle.chart_term.specs.Tables.{Tables, net_of}
use Rattle.chart_term.specs.Terms.{Tree, ◌∪◌}
use Rattle.hmsc_graph.specs.Graphs.{Spot, To, WalkThrough}
use Rattle.msc_base.specs.Lists.{IsIn}
use Rattle.term_laws.specs.Permission.{permits_of}
use Rattle.term_step.specs.Skips.{IsChildOr}
use Rattle.term_step.specs.declared.ascent.Taken.{Taken}

-- the node isn't one of those that are reached
abbrev pub IsLeftOut : Option NodeSetValue → ℕ → Type 0
IsLeftOut None node = ⊥
IsLeftOut (Some nodes) node = IsIn node nodes.nodes → ⊥

-- the nodes that a walk reaches from there while nothing happens at the instances of the event that was met; events of one label have the
-- same instances
pub record IsReachOfMet (w : Tables) (n : ℕ) (f : Spot) (c : List ℕ) (met : Option Taken) (one_place : Bool) (nodes : NodeSetValue) : Type 0 where
  pub one : one_place ≡ true
  pub event : Taken
  pub is_met : met ≡ Some event
  pub all : (m : ℕ) → WalkThrough (net_of w n) (allowed (permits_of w) n (c ∪ event.at.instances)) f (To m) → IsIn m nodes.nodes

-- what is left of a node's term; or none, where nothing is left, it has no event with the label, or it is left out
abbrev pub IsNodeOr : ℕ → Option NodeSetValue → ℕ → Option Tree → Option Tree → Type 0
IsNodeOr a reached node kept None = IsLeftOut reached node ⊎ IsChildOr a kept None
IsNodeOr a reached node kept (Some x) = IsChildOr a kept (Some x)
