-- The term and the nets that are made of an expansion are sound.
use Rattle.std.specs.Prelude.{◌≡◌, ◌<◌, ℕ, true, List, [], ◌∷◌, length}
use Rattle.msc_base.specs.Orders.{Among}
use Rattle.hmsc_graph.specs.declared.shape.Shape.{Shape}
use Rattle.hmsc_graph.specs.declared.shape.ShapeLine.{ShapeLine}
use Rattle.hmsc_graph.specs.Nets.{IsNet}
use Rattle.chart_term.specs.Tables.{Tables}
use Rattle.term_laws.specs.FullSoundness.{AreSoundNets, IsFullySound}
use Rattle.expansion_tree.specs.Expansions.{InRow, no_parts, part_and, events_in}
use Rattle.expansion_tree.specs.Numbered.{Expansion, Expansions}
use Rattle.expansion_tree.specs.Walks.{EachWalk}
use Rattle.expansion_tree.specs.declared.tree.ExpandedEvent.{ExpandedEvent}
use Rattle.expansion_order.specs.Ranks.{CanBeRanked}
use Rattle.expansion_terms.specs.MadeTerms.{judged, made, net_of_shape, parts_count}
use Rattle.expanded_terms.specs.ExpansionNumbers.{CountFrom, numbers_by}
use Rattle.expanded_terms.specs.RankedTerms.{EachTie, IsOwn, expanded_number}
use Rattle.node_ranks.specs.NodeRanks.{EachPart}

-- in the node of an end line nothing happens
abbrev pub AreEndsEmpty : List ShapeLine → Expansions → Type 0
AreEndsEmpty [] xs = Unit {0}
AreEndsEmpty (line ∷ lines) no_parts = Unit {0}
AreEndsEmpty (line ∷ lines) (part_and x xs) = (line.ends ≡ true → x ≡ InRow no_parts) × AreEndsEmpty lines xs

-- the edges of the graph lead to its lines; there is a part for each line, and each can be ranked
pub record IsSoundGraph (g : Shape) (xs : Expansions) : Type 0 where
  pub net : IsNet (net_of_shape g)
  pub each : parts_count xs ≡ length g.lines
  pub ends : AreEndsEmpty g.lines xs
  pub ranked : EachPart CanBeRanked xs

-- its numbers stand one behind another, from n on, and its labels are known; a tie is of events of what it ties, outside loops and walks;
-- and its graphs are sound
pub record CanBeMade (labels n : ℕ) (x : Expansion) : Type 0 where
  pub counted : CountFrom n (numbers_by expanded_number x)
  pub labelled : (e : ExpandedEvent) → Among e (events_in x) → e.label < labels
  pub tied : EachTie IsOwn x
  pub graphs : EachWalk (λ m g xs. IsSoundGraph g xs) x

-- then nets that are made over sound ones are sound, and so is the term of the judged expansion, where it can be ranked
pub record MadeTermsAreSound : Type 0 where
  pub nets : (labels n : ℕ) (t : Tables) (x : Expansion) → AreSoundNets labels t → CanBeMade labels n x → AreSoundNets labels (made t x).tables
  pub judged : (labels n : ℕ) (x : Expansion) → CanBeMade labels n x → CanBeRanked x → IsFullySound labels (judged [] x).tables (judged [] x).term
