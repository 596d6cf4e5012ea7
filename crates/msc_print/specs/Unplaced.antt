-- Documents without their places, and documents that are the same but for their places.
use Rattle.std.specs.Prelude.{◌≡◌, map}
use Rattle.msc_base.specs.declared.label.LabelRef.{LabelRef}
use Rattle.msc_tree.specs.declared.chart.Decl.{Decl}
use Rattle.msc_tree.specs.declared.event.RawEvent.{RawEvent}
use Rattle.msc_tree.specs.declared.reference.Join.{Join}
use Rattle.msc_tree.specs.Charts.{Content, Basic, HighLevel, Chart, Document}
use Rattle.msc_tree.specs.Graphs.{Graph, Lines, Line, Node, Graphs, graph, no_lines, line_and, line, Ends, Connect, Condition, Refer, Frames, no_graphs, graph_and}
use Rattle.msc_tree.specs.Statements.{Reference, Item, placed, Form, Single, Coregion, Inline, Stop, Items, no_items, item_and, Operand, InColumn, Outside, Operands, no_operands, operand_and, Statement, Column, Covered, Heading, Ended, Statements, no_statements, statement_and}
use Rattle.msc_tree.specs.Statements as tree
use Rattle.msc_tokens.specs.Places.{first_place}

abbrev pub unplaced_decl : Decl → Decl
unplaced_decl d = record { name = d.name; kind = d.kind; refined = d.refined; place = first_place }

abbrev pub unplaced_event : RawEvent → RawEvent
unplaced_event e = record {
  kind = e.kind;
  text = e.text;
  parameters = e.parameters;
  pairing = e.pairing;
  target = e.target;
  order = e.order;
  place = first_place;
}

abbrev pub unplaced_label : LabelRef → LabelRef
unplaced_label l = record { name = l.name; place = first_place }

abbrev pub unplaced_join : Join → Join
unplaced_join j = record { gate = j.gate; to = j.to; place = first_place }

abbrev pub unplaced_reference : Reference → Reference
unplaced_reference r = record { name = r.name; expression = r.expression; joins = map unplaced_join r.joins; shared = r.shared }

-- ---- graphs

abbrev mutual
  pub unplaced_graph : Graph → Graph
  unplaced_graph (graph starts lines) = graph (map unplaced_label starts) (unplaced_lines lines)

  pub unplaced_lines : Lines → Lines
  unplaced_lines no_lines = no_lines
  unplaced_lines (line_and held lines) = line_and (unplaced_line held) (unplaced_lines lines)

  pub unplaced_line : Line → Line
  unplaced_line (line label place node labels) = line label first_place (unplaced_node node) (map unplaced_label labels)

  pub unplaced_node : Node → Node
  unplaced_node Ends = Ends
  unplaced_node Connect = Connect
  unplaced_node (Condition names) = Condition names
  unplaced_node (Refer expression) = Refer expression
  unplaced_node (Frames frames) = Frames (unplaced_graphs frames)

  pub unplaced_graphs : Graphs → Graphs
  unplaced_graphs no_graphs = no_graphs
  unplaced_graphs (graph_and frame frames) = graph_and (unplaced_graph frame) (unplaced_graphs frames)

-- ---- items, operands and statements

abbrev mutual
  pub unplaced_item : Item → Item
  unplaced_item (placed place form) = placed first_place (unplaced_form form)

  pub unplaced_form : Form → Form
  unplaced_form (Single event) = Single (unplaced_event event)
  unplaced_form (Coregion events) = Coregion (map unplaced_event events)
  unplaced_form (tree.Condition names shared) = tree.Condition names shared
  unplaced_form (Inline head operands) = Inline head (unplaced_operands operands)
  unplaced_form (tree.Refer reference) = tree.Refer (unplaced_reference reference)
  unplaced_form Stop = Stop

  pub unplaced_items : Items → Items
  unplaced_items no_items = no_items
  unplaced_items (item_and item items) = item_and (unplaced_item item) (unplaced_items items)

  pub unplaced_operand : Operand → Operand
  unplaced_operand (InColumn items) = InColumn (unplaced_items items)
  unplaced_operand (Outside statements) = Outside (unplaced_statements statements)

  pub unplaced_operands : Operands → Operands
  unplaced_operands no_operands = no_operands
  unplaced_operands (operand_and operand operands) = operand_and (unplaced_operand operand) (unplaced_operands operands)

  pub unplaced_statement : Statement → Statement
  unplaced_statement (Column decl items) = Column (unplaced_decl decl) (unplaced_items items)
  unplaced_statement (Covered cover items) = Covered cover (unplaced_items items)
  unplaced_statement (Heading decl) = Heading (unplaced_decl decl)
  unplaced_statement (Ended instance_name) = Ended instance_name

  pub unplaced_statements : Statements → Statements
  unplaced_statements no_statements = no_statements
  unplaced_statements (statement_and statement statements) = statement_and (unplaced_statement statement) (unplaced_statements statements)

-- ---- documents

abbrev pub unplaced_content : Content → Content
unplaced_content (Basic statements) = Basic (map unplaced_statement statements)
unplaced_content (HighLevel held) = HighLevel (unplaced_graph held)

abbrev pub unplaced_chart : Chart → Chart
unplaced_chart c = record {
  name = c.name;
  place = first_place;
  decls = map unplaced_decl c.decls;
  messages = c.messages;
  timers = c.timers;
  content = unplaced_content c.content;
}

-- the document with one place in each part of it
abbrev pub without_places : Document → Document
without_places d = record { heading = d.heading; charts = map unplaced_chart d.charts }

-- the documents are the same, but for their places
abbrev pub SameAside : Document → Document → Type 0
SameAside d e = without_places d ≡ without_places e
