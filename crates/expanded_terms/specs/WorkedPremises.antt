-- The charts of WorkedTerms meet what the laws ask: a join between two references, a gate of an inline expression, and a decomposed
-- instance.
use Rattle.std.specs.Prelude.{ℕ, List, [], ◌∷◌, codes}
use Rattle.msc_base.specs.declared.label.Label.{Label}
use Rattle.msc_meaning.specs.Bodies.{WovenItems}
use Rattle.msc_meaning.specs.FarEnds.{no_gates}
use Rattle.msc_meaning.specs.InnerEvents.{GateEnd}
use Rattle.msc_meaning.specs.Tables.{Table}
use Rattle.msc_meaning.specs.WorkedCharts.{d, e, i, j, k, m, n, p, q, x, gates_joined, gate_of_inline, refined}
use Rattle.msc_meaning.specs.WorkedParts.{sent, received, done}
use Rattle.expanded_terms.specs.FitBodies.{IsFitTo}
use Rattle.expanded_terms.specs.JoinProducts.{IsFewTo}
use Rattle.expanded_terms.specs.NamedEvents.{IsNameable, named_leaves}
use Rattle.expanded_terms.specs.PlacedTerms.{IsPlaceable}
use Rattle.expanded_terms.specs.WholeCharts.{IsWholeTo}
use Rattle.expanded_terms.specs.WorkedTerms.{joined_ends, inline_ends, no_ends, no_walk}

-- the chart A of a table meets what is asked for meaning, places and weights
pub record MeetsAll (names : List (List ℕ)) (labels : List Label) (ends_of : WovenItems → List GateEnd) (table : Table) (depth : ℕ) : Type 0 where
  pub whole : IsWholeTo table ends_of depth (codes "A")
  pub fit : IsFitTo table ends_of (named_leaves names labels no_walk) (IsNameable names labels) (λ i g nodes. ⊥) depth (codes "A") no_gates 0
  pub placeable : IsFitTo table ends_of (named_leaves names labels no_walk) (IsPlaceable names labels) (λ i g nodes. ⊥) depth (codes "A") no_gates 0
  pub few : IsFewTo table depth (codes "A")

pub record PremisesAreMet : Type 0 where
  pub joined : MeetsAll (p ∷ q ∷ []) (sent p m q ∷ received q m p ∷ []) joined_ends gates_joined 2
  pub inline : MeetsAll (i ∷ k ∷ []) (sent i m k ∷ received k m i ∷ done k x ∷ []) inline_ends gate_of_inline 1
  pub decomposed : MeetsAll (j ∷ d ∷ e ∷ []) (sent j m d ∷ sent e n d ∷ received d n e ∷ received d m j ∷ []) no_ends refined 1
