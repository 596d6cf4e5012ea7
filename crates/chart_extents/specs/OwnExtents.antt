-- What a chart comes to by itself, by its text: its size and its nesting, without those of the charts that it names, and without what joins
-- between two gates add.
use Rattle.std.specs.Prelude.{ℕ, ◌+◌, max, List, [], ◌∷◌}
use Rattle.chart_extents.specs.declared.extent.Extent.{Extent}
use Rattle.chart_forms.specs.ChartSizes.{size_of}
use Rattle.chart_text.specs.Gathering.{summed}
use Rattle.chart_text.specs.Texts.{Passage, a_head, a_statement, an_item, an_operand, chart_text}
use Rattle.graph_text.specs.GraphGathering.{deepest_part, summed_parts}
use Rattle.graph_text.specs.GraphTexts.{GraphPart, a_graph, a_line, graph_parts, graph_text}
use Rattle.msc_tree.specs.Charts.{Chart, Content, Basic, HighLevel}
use Rattle.msc_tree.specs.Expressions.{Expression, Expressions}
use Rattle.msc_tree.specs.Expressions as expression
use Rattle.msc_tree.specs.Graphs.{Node}
use Rattle.msc_tree.specs.Graphs as graph
use Rattle.msc_tree.specs.Statements.{Form, Single, Coregion, Condition, Inline, Refer, Stop}

-- ---- sizes

-- `empty` counts 1, `alt`, `par` and `seq` count 1 and their parts, `loop` and `opt` 2; what a name counts isn't the chart's own
abbrev mutual
  pub expression_size : Expression → ℕ
  expression_size expression.Empty = 1
  expression_size (expression.Chart name) = 0
  expression_size (expression.Alt parts) = 1 + parts_size parts
  expression_size (expression.Par parts) = 1 + parts_size parts
  expression_size (expression.Seq parts) = 1 + parts_size parts
  expression_size (expression.Opt part) = 2 + expression_size part
  expression_size (expression.Loop lower upper part) = 2 + expression_size part

  pub parts_size : Expressions → ℕ
  parts_size expression.none = 0
  parts_size (expression.more x xs) = expression_size x + parts_size xs

-- a reference counts 2 and its expression; what its joins add is told apart
abbrev pub reference_size : Form → ℕ
reference_size (Refer reference) = 2 + expression_size reference.expression
reference_size (Single event) = 0
reference_size (Coregion events) = 0
reference_size (Condition names shared) = 0
reference_size (Inline head held) = 0
reference_size Stop = 0

abbrev pub passage_size : Passage → ℕ
passage_size (a_head decl) = 0
passage_size (a_statement depth scope x) = 0
passage_size (an_item s place form) = reference_size form
passage_size (an_operand s x) = 0

-- a node counts its expression besides what chart_forms counts
abbrev pub node_size : Node → ℕ
node_size (graph.Refer e) = expression_size e
node_size graph.Ends = 0
node_size graph.Connect = 0
node_size (graph.Condition names) = 0
node_size (graph.Frames held) = 0

-- a part of a graph by itself
abbrev pub part_size : GraphPart → ℕ
part_size (a_graph depth drawn) = 0
part_size (a_line depth place node) = node_size node

-- ---- nesting

-- each operator is a level; a name is none of the chart's own
abbrev mutual
  pub expression_nesting : Expression → ℕ
  expression_nesting expression.Empty = 0
  expression_nesting (expression.Chart name) = 0
  expression_nesting (expression.Alt parts) = 1 + parts_nesting parts
  expression_nesting (expression.Par parts) = 1 + parts_nesting parts
  expression_nesting (expression.Seq parts) = 1 + parts_nesting parts
  expression_nesting (expression.Opt part) = 1 + expression_nesting part
  expression_nesting (expression.Loop lower upper part) = 1 + expression_nesting part

  pub parts_nesting : Expressions → ℕ
  parts_nesting expression.none = 0
  parts_nesting (expression.more x xs) = max (expression_nesting x) (parts_nesting xs)

-- an item by itself: an inline expression is a level above what its operands hold
abbrev pub form_nesting : Form → ℕ
form_nesting (Single event) = 1
form_nesting (Coregion events) = 2
form_nesting (Condition names shared) = 0
form_nesting (Inline head held) = 1
form_nesting (Refer reference) = 1 + expression_nesting reference.expression
form_nesting Stop = 0

-- with the inline expressions that it stands in
abbrev pub passage_nesting : Passage → ℕ
passage_nesting (a_head decl) = 0
passage_nesting (a_statement depth scope x) = 0
passage_nesting (an_item s place form) = s.depth + form_nesting form
passage_nesting (an_operand s x) = 0

abbrev pub deepest : List Passage → ℕ
deepest [] = 0
deepest (p ∷ ps) = max (passage_nesting p) (deepest ps)

-- a node: frames are two levels above their graphs
abbrev pub node_nesting : Node → ℕ
node_nesting graph.Ends = 0
node_nesting graph.Connect = 0
node_nesting (graph.Condition names) = 0
node_nesting (graph.Refer e) = expression_nesting e
node_nesting (graph.Frames held) = 2

-- a part of a graph: a graph or a frame is two levels
abbrev pub part_nesting : GraphPart → ℕ
part_nesting (a_graph depth drawn) = depth + 2
part_nesting (a_line depth place node) = depth + node_nesting node

-- ---- charts

-- what a chart holds, whose text that is: a basic chart is two levels, and so is a graph
abbrev pub content_nesting : Content → List Passage → ℕ
content_nesting (Basic held) text = 2 + deepest text
content_nesting (HighLevel drawn) text = deepest_part part_nesting (graph_parts 0 drawn)

-- with the expressions of references and of nodes
abbrev pub own_size : Chart → ℕ
own_size chart = size_of chart + summed passage_size (chart_text chart) + summed_parts part_size (graph_text chart.content)

abbrev pub own_extent : Chart → Extent
own_extent chart = record { size = own_size chart; nesting = content_nesting chart.content (chart_text chart) }
