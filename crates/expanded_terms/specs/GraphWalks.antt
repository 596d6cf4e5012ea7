-- Walks through the nets of graphs: what is asked of the term of a walk for it to mean the graph's finished walks.
use Rattle.std.specs.Prelude.{◌≡◌, ◌≤◌, List, ◌∷◌, None, length}
use Rattle.msc_base.specs.declared.label.LabelRef.{LabelRef}
use Rattle.msc_base.specs.declared.limits.TheConstants.Limits.{NODE_LINES}
use Rattle.msc_base.specs.declared.place.Place.{Place}
use Rattle.hmsc_graph.specs.declared.shape.Shape.{Shape}
use Rattle.hmsc_graph.specs.Nets.{IsNet}
use Rattle.hmsc_graph.specs.Shapes.{IsFaulty, IsGraphOf}
use Rattle.hmsc_graph.specs.Walks.{IsFirstEndless}
use Rattle.chart_term.specs.Tables.{Tables}
use Rattle.chart_term.specs.Terms.{Tree}
use Rattle.expansion_terms.specs.MadeTerms.{IsWalkOf, net_of_shape}

-- the net is the graph's, in which no label is unknown or stands twice
pub record IsWholeNet (g : Shape) : Type 0 where
  pub drawn : IsGraphOf g (net_of_shape g)
  pub faultless : (p : Place) → IsFaulty g p → ⊥
  pub net : IsNet (net_of_shape g)

-- a walk leads from the start to an end: some node is named at the start, and none is endless
pub record LeadsToEnd (g : Shape) : Type 0 where
  pub first : LabelRef
  pub others : List LabelRef
  pub starts : g.starts ≡ first ∷ others
  pub ends : IsFirstEndless (net_of_shape g) None

-- the term is the walks to an end of the graph of these node terms, and there are some
pub record IsGraphWalk (w : Tables) (g : Shape) (nodes : List Tree) (x : Tree) : Type 0 where
  pub walk : IsWalkOf w g nodes x
  pub whole : IsWholeNet g
  pub leads : LeadsToEnd g

-- a graph with few lines, in which no label is unknown or stands twice, has its net
abbrev pub NetsAreWhole : Type 0
NetsAreWhole = (g : Shape) → ((p : Place) → IsFaulty g p → ⊥) → length g.lines ≤ NODE_LINES → IsWholeNet g
