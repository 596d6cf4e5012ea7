-- Where no line of a graph is endless, walks through its net come to an end.
use Rattle.std.specs.Prelude.{List, None}
use Rattle.msc_base.specs.declared.place.Place.{Place}
use Rattle.hmsc_graph.specs.declared.shape.Shape.{Shape}
use Rattle.hmsc_graph.specs.Graphs.{Net}
use Rattle.hmsc_graph.specs.Nets.{IsNet}
use Rattle.hmsc_graph.specs.Shapes.{IsGraphOf}
use Rattle.hmsc_graph.specs.Walks.{IsFirstEndless}
use Rattle.graph_rules.specs.GraphRules.{HasEndlessLine}

abbrev pub WalksEnd : Type 0
WalksEnd = (shape : Shape) (net : Net) → IsGraphOf shape net → IsNet net → ((place : Place) → HasEndlessLine shape place → ⊥) → IsFirstEndless net None
