-- A chart that calls a gate through two levels, with its term: values that meet what the laws ask.
--   msc C; inst k; k: in m from env via g; endmsc;
--   msc B; inst k; k: reference S: C via g to env via h; endmsc;
--   msc A; inst i,k; i: out m to reference R via h; k: reference R: B; endmsc;
use Rattle.std.specs.Prelude.{◌≡◌, ℕ, List, [], ◌∷◌, None, codes}
use Rattle.msc_base.specs.declared.label.Kind.TheVariants.{Input}
use Rattle.msc_base.specs.declared.label.Label.{Label}
use Rattle.msc_base.specs.Patterns.{seq}
use Rattle.chart_term.specs.Terms.{TermEvent, Nil, Event, Join, Tied, trees}
use Rattle.msc_meaning.specs.Bodies.{WovenItems}
use Rattle.msc_meaning.specs.Calls.{Call, calls}
use Rattle.msc_meaning.specs.FarEnds.{no_gates}
use Rattle.msc_meaning.specs.InnerEvents.{GateEnd}
use Rattle.msc_meaning.specs.WorkedCharts.{i, k, m, gate_through_levels}
use Rattle.msc_meaning.specs.WorkedParts.{sent, received}
use Rattle.expanded_terms.specs.ExpandedTerms.{Leaves, charts_to}
use Rattle.expanded_terms.specs.FitBodies.{IsFitTo}
use Rattle.expanded_terms.specs.JoinProducts.{IsFewTo}
use Rattle.expanded_terms.specs.NamedEvents.{IsNameable, named_leaves}
use Rattle.expanded_terms.specs.PlacedTerms.{IsPlaceable}

abbrev pub worked_names : List (List ℕ)
worked_names = i ∷ k ∷ []

abbrev pub worked_labels : List Label
worked_labels = sent i m k ∷ received k m i ∷ []

-- the inner event of each called gate is the input at k
abbrev pub ends_for : List Call → List GateEnd
ends_for [] = []
ends_for (c ∷ cs) = record { name = c.name; gate = c.gate; at = k; kind = Input } ∷ ends_for cs

abbrev pub worked_ends : WovenItems → List GateEnd
worked_ends held = ends_for (calls held)

abbrev pub worked_leaves : Leaves
worked_leaves = named_leaves worked_names worked_labels (λ n. Nil)

abbrev pub sending : TermEvent
sending = record { number = 0; at = 0; also = None; label = 0 }

abbrev pub taking : TermEvent
taking = record { number = 1; at = 1; also = None; label = 1 }

-- the gates are gone: the output is tied to the input two levels below by their numbers; the far ends are each other's instances
pub record GateExpands : Type 0 where
  pub term : (charts_to worked_leaves worked_ends gate_through_levels 3).term (codes "A") no_gates 0 ≡ Tied (Join seq (trees (Event sending ∷ Event taking ∷ []))) ((0, 1) ∷ [])
  pub fit : IsFitTo gate_through_levels worked_ends worked_leaves (IsNameable worked_names worked_labels) (λ m g nodes. ⊥) 3 (codes "A") no_gates 0
  pub placeable : IsFitTo gate_through_levels worked_ends worked_leaves (IsPlaceable worked_names worked_labels) (λ m g nodes. ⊥) 3 (codes "A") no_gates 0
  pub few : IsFewTo gate_through_levels 3 (codes "A")
