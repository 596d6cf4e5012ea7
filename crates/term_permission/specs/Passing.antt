-- Serves private contracts alone.
-- Which nodes of a net a walk reaches and can pass, and whether one of them leaves more than the empty pattern.
use Rattle.std.specs.Prelude.{ℕ, true, List, [], ◌∷◌, ◌++◌, ◌≡◌, ◌≤◌, ◌+◌, ◌↔◌, ◌⊎◌, Option, length}
use Rattle.hmsc_graph.specs.Graphs.{Net, Spot, To, WalkThrough}
use Rattle.hmsc_graph.specs.Searches.{IsSearch, missing}
use Rattle.hmsc_graph.specs.declared.search.Traversal.{Traversal}
use Rattle.msc_base.specs.Lists.{IsIn}
use Rattle.chart_term.specs.NormalForms.{some_kept}
use Rattle.chart_term.specs.Terms.{Tree}
use Rattle.term_permission.specs.Remnants.{is_full, RemnantSays}
use Rattle.term_permission.specs.declared.passing.Passable.{Passable}
use Rattle.term_permission.specs.declared.remnant.Remnant.{Remnant}

-- the allowed nodes that a walk through allowed nodes reaches, and those of them that leave more than the empty pattern
pub record ArePassable (g : Net) (allowed : List ℕ) (kept : ℕ → Option Tree) (from : Spot) (passed full : List ℕ) : Type 0 where
  pub passes : (m : ℕ) → IsIn m passed ↔ (WalkThrough g allowed from (To m) × IsIn m allowed)
  pub fills : (m : ℕ) → IsIn m full ↔ (IsIn m passed × (is_full (kept m) ≡ true))

-- a search for them has come so far: of the nodes that are reached and don't wait it has all
pub record IsPassing (g : Net) (allowed : List ℕ) (kept : ℕ → Option Tree) (from : Spot) (reached waits passed full : List ℕ) : Type 0 where
  pub search : IsSearch g allowed from reached waits
  pub passes : (m : ℕ) → IsIn m passed → IsIn m reached × IsIn m allowed
  pub fills : (m : ℕ) → IsIn m full → IsIn m passed × (is_full (kept m) ≡ true)
  pub asked : (m : ℕ) → IsIn m reached → IsIn m waits ⊎ (IsIn m allowed → IsIn m passed × (is_full (kept m) ≡ true → IsIn m full))

-- the search has looked at one node more, where permission leaves this of its term
pub record HasVisited (g : Net) (node : ℕ) (left : Remnant) (was : Traversal) (had : Passable) (is : Traversal) (has : Passable) : Type 0 where
  pub size : has.passed.size ≡ had.passed.size
  pub reached : is.reached.size ≡ was.reached.size
  pub work : missing is.reached.nodes is.reached.size + length is.waiting.items ≤ missing was.reached.nodes was.reached.size + length was.waiting.items
  pub passing : (allowed : List ℕ) (kept : ℕ → Option Tree) (from : Spot) → (IsIn node allowed ↔ (some_kept (kept node) ≡ true)) → RemnantSays left (kept node)
      → IsPassing g allowed kept from was.reached.nodes (was.waiting.items ++ node ∷ []) had.passed.nodes had.full → IsPassing g allowed kept from is.reached.nodes is.waiting.items has.passed.nodes has.full

-- a number stands in both lists
abbrev pub HaveCommon : List ℕ → List ℕ → Type 0
HaveCommon ms ns = (m : ℕ) × IsIn m ms × IsIn m ns
