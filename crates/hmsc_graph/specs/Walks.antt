-- Where walks lead.
use Rattle.std.specs.Prelude.{ℕ, false, List, ◌≡◌, ◌<◌, Option, Some, None}
use Rattle.hmsc_graph.specs.Graphs.{Net, Spot, Start, At, Goal, To, End, Any, WalkThrough, arrives}

-- a walk leads there, all inner nodes of which are allowed; anywhere is always reached
abbrev pub Leads : Net → List ℕ → Spot → Goal → Type 0
Leads g allowed from (To node) = WalkThrough g allowed from (To node)
Leads g allowed from End = WalkThrough g allowed from End
Leads g allowed from Any = Unit {0}

-- a walk leads there, whatever it passes
abbrev pub MayReach : Net → Spot → Goal → Type 0
MayReach g from to = (passed : List ℕ) × WalkThrough g passed from to

-- a node that is reached, is no `end` line and can't reach one
pub record IsEndless (g : Net) (node : ℕ) : Type 0 where
  pub reached : MayReach g Start (To node)
  pub inner : arrives g End node ≡ false
  pub stuck : MayReach g (At node) End → ⊥

-- where it is reached, it is an `end` line or can reach one
abbrev pub MayEnd : Net → ℕ → Type 0
MayEnd g node = MayReach g Start (To node) → arrives g End node ≡ false → MayReach g (At node) End

-- the first endless node, where there is one
abbrev pub IsFirstEndless : Net → Option ℕ → Type 0
IsFirstEndless g (Some node) = IsEndless g node × ((earlier : ℕ) → earlier < node → MayEnd g earlier)
IsFirstEndless g None = (node : ℕ) → MayEnd g node
