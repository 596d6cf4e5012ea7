-- The expanded size of a chart, by its text.
use Rattle.std.specs.Prelude.{ℕ, ◌+◌, List, [], ◌∷◌}
use Rattle.chart_text.specs.Gathering.{summed}
use Rattle.chart_text.specs.Texts.{Passage, a_head, a_statement, an_item, an_operand, chart_text}
use Rattle.general_ordering.specs.OrderCounts.{order_count}
use Rattle.graph_text.specs.GraphGathering.{summed_parts}
use Rattle.graph_text.specs.GraphTexts.{GraphPart, a_graph, a_line, graph_parts}
use Rattle.msc_tree.specs.declared.event.RawEvent.{RawEvent}
use Rattle.msc_tree.specs.Charts.{Chart, Content, Basic, HighLevel}
use Rattle.msc_tree.specs.Graphs.{Node}
use Rattle.msc_tree.specs.Graphs as graph
use Rattle.msc_tree.specs.Statements.{Form, Single, Coregion, Condition, Inline, Refer, Stop}

-- an event counts 3, and 1 for each name of the events that it is to come before or after
abbrev pub event_size : RawEvent → ℕ
event_size e = 3 + order_count e

abbrev pub events_size : List RawEvent → ℕ
events_size [] = 0
events_size (e ∷ es) = event_size e + events_size es

-- an item by itself: a coregion counts 1 and its events, each part of an inline expression 2; conditions count nothing, nor do references
-- here, whose size is told with that of the charts that they name
abbrev pub item_size : Form → ℕ
item_size (Inline head held) = 2
item_size (Single e) = event_size e
item_size (Coregion es) = 1 + events_size es
item_size (Condition names shared) = 0
item_size (Refer reference) = 0
item_size Stop = 0

-- a passage of the text: an operand counts 1
abbrev pub passage_size : Passage → ℕ
passage_size (a_head decl) = 0
passage_size (a_statement depth scope x) = 0
passage_size (an_item s place form) = item_size form
passage_size (an_operand s x) = 1

-- a node by itself: frames count 1; an expression counts nothing here, as a reference
abbrev pub node_size : Node → ℕ
node_size graph.Ends = 0
node_size graph.Connect = 0
node_size (graph.Condition names) = 0
node_size (graph.Refer e) = 0
node_size (graph.Frames held) = 1

-- a part of a graph: a graph or a frame counts 2, a line 2 and its node
abbrev pub part_size : GraphPart → ℕ
part_size (a_graph depth drawn) = 2
part_size (a_line depth place node) = 2 + node_size node

-- what a chart holds, whose text that is: a basic chart counts 2 and its text, a graph its parts
abbrev pub content_size : Content → List Passage → ℕ
content_size (Basic held) text = 2 + summed passage_size text
content_size (HighLevel drawn) text = summed_parts part_size (graph_parts 0 drawn)

-- the size of a chart
abbrev pub size_of : Chart → ℕ
size_of chart = content_size chart.content (chart_text chart)
