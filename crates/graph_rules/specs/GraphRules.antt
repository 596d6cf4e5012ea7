-- The rules on the graphs of high-level charts, by their text: a graph has only so many lines, each label that is named is that of one line,
-- and from each line that walks reach they can come to an end (Z.120, clause 7.5).
use Rattle.std.specs.Prelude.{◌≡◌, ◌⊎◌, ◌≤◌, ℕ, Bool, true, false, List, [], ◌∷◌, Some, length, slice_get}
use Rattle.msc_base.specs.declared.limits.TheConstants.Limits.{NODE_LINES}
use Rattle.msc_base.specs.declared.place.Place.{Place}
use Rattle.msc_rules.specs.declared.rule.Rule.{Rule}
use Rattle.msc_rules.specs.declared.rule.Rule.TheVariants.{UnknownLabel, LabelNamedTwice}
use Rattle.hmsc_graph.specs.Graphs.{Net}
use Rattle.hmsc_graph.specs.Shapes.{BreaksLabels, IsFaulty, IsGraphOf}
use Rattle.hmsc_graph.specs.Walks.{IsEndless}
use Rattle.hmsc_graph.specs.declared.shape.Shape.{Shape}
use Rattle.hmsc_graph.specs.declared.shape.ShapeLine.{ShapeLine}
use Rattle.msc_tree.specs.Charts.{Content, Basic, HighLevel}
use Rattle.msc_tree.specs.Graphs.{Graph, graph}
use Rattle.graph_shapes.specs.GraphLists.{frames_in, graphs_in}
use Rattle.graph_shapes.specs.GraphShapes.{shape_of}

-- ---- the graphs of a chart

-- its graph, and the frames of nodes, at any depth
abbrev pub content_graphs : Content → List Graph
content_graphs (Basic held) = []
content_graphs (HighLevel drawn) = graphs_in drawn

-- the frames alone
abbrev pub frames_within : Graph → List Graph
frames_within (graph starts lines) = frames_in lines

-- those in which each walk is to come to an end: frames, and the graph itself where charts refer to its chart
abbrev pub graphs_to_end : Bool → Graph → List Graph
graphs_to_end true drawn = graphs_in drawn
graphs_to_end false drawn = frames_within drawn

abbrev pub ending_graphs : Bool → Content → List Graph
ending_graphs referred (Basic held) = []
ending_graphs referred (HighLevel drawn) = graphs_to_end referred drawn

-- ---- rules on one graph

-- the first line above the limit stands there
pub record HasFurtherLine (shape : Shape) (place : Place) : Type 0 where
  pub line : ShapeLine
  pub at : slice_get shape.lines NODE_LINES ≡ Some line
  pub here : line.place ≡ place

-- there stands the label of a line to which a walk leads, which is no end, and from which none leads to an end
pub record HasEndlessLine (shape : Shape) (place : Place) : Type 0 where
  pub net : Net
  pub drawn : IsGraphOf shape net
  pub node : ℕ
  pub endless : IsEndless net node
  pub line : ShapeLine
  pub at : slice_get shape.lines node ≡ Some line
  pub here : line.place ≡ place

-- ---- rules on graphs

-- one of the graphs has it at that place
abbrev pub InGraphs : (Shape → Place → Type 0) → List Graph → Place → Type 0
InGraphs Has [] place = ⊥
InGraphs Has (g ∷ gs) place = Has (shape_of g) place ⊎ InGraphs Has gs place

abbrev pub labels : List Rule
labels = UnknownLabel ∷ LabelNamedTwice ∷ []

-- one of the graphs breaks the rule of labels there
abbrev pub BreakLabels : List Graph → Rule → Place → Type 0
BreakLabels gs broken place = InGraphs (λ shape. BreaksLabels shape broken) gs place

-- no graph has a line above the limit
abbrev pub HaveFewLines : List Graph → Type 0
HaveFewLines [] = Unit {0}
HaveFewLines (g ∷ gs) = (length (shape_of g).lines ≤ NODE_LINES) × HaveFewLines gs

-- no label is unknown or stands twice
abbrev pub AreLabelled : List Graph → Type 0
AreLabelled [] = Unit {0}
AreLabelled (g ∷ gs) = ((place : Place) → IsFaulty (shape_of g) place → ⊥) × AreLabelled gs
