-- The plain trees that the types of this crate stand for.
use Rattle.std.specs.Prelude.{map, [], ◌∷◌}
use Rattle.std.specs.Box.{box_value}
use Rattle.msc_tree.specs.declared.chart.Content.{Content}
use Rattle.msc_tree.specs.declared.chart.Content.TheVariants.{Events, Graph}
use Rattle.msc_tree.specs.declared.chart.RawChart.{RawChart}
use Rattle.msc_tree.specs.declared.chart.RawDocument.{RawDocument}
use Rattle.msc_tree.specs.declared.expression.RefExpr.{RefExpr, fold-RefExpr}
use Rattle.msc_tree.specs.declared.expression.RefExpr.TheOpen.{RefExpr-F}
use Rattle.msc_tree.specs.declared.graph.NodeKind.TheOpen.{NodeKind-F, RawGraph-F, RawLine-F}
use Rattle.msc_tree.specs.declared.graph.NodeKind.{NodeKind, fold-NodeKind}
use Rattle.msc_tree.specs.declared.graph.RawGraph.{RawGraph, fold-RawGraph}
use Rattle.msc_tree.specs.declared.graph.RawLine.{RawLine, fold-RawLine}
use Rattle.msc_tree.specs.declared.statement.RawReference.{RawReference}
use Rattle.msc_tree.specs.declared.statement.RawForm.{RawForm, fold-RawForm}
use Rattle.msc_tree.specs.declared.statement.RawForm.TheOpen.{RawForm-F, RawOperand-F, Statement-F, RawInline-F, RawItem-F, RawOperand::Column, RawOperand::Covered, Statement::Column, Statement::Covered}
use Rattle.msc_tree.specs.declared.statement.RawInline.{RawInline, fold-RawInline}
use Rattle.msc_tree.specs.declared.statement.RawItem.{RawItem, fold-RawItem}
use Rattle.msc_tree.specs.declared.statement.RawOperand.{RawOperand, fold-RawOperand}
use Rattle.msc_tree.specs.declared.statement.Statement.{Statement, fold-Statement}
use Rattle.msc_tree.specs.Charts.{Chart, Document}
use Rattle.msc_tree.specs.Charts as chart
use Rattle.msc_tree.specs.Expressions.{Expression, expressions}
use Rattle.msc_tree.specs.Expressions as expression
use Rattle.msc_tree.specs.Graphs as graph
use Rattle.msc_tree.specs.Statements.{Reference, items, operands, statements}
use Rattle.msc_tree.specs.Statements as tree

-- ---- expressions

abbrev pub expression_step : RefExpr-F Expression → Expression
expression_step RefExpr-F.Empty = expression.Empty
expression_step (RefExpr-F.Chart chart_name) = expression.Chart chart_name
expression_step (RefExpr-F.Alt parts) = expression.Alt (expressions parts.items)
expression_step (RefExpr-F.Par parts) = expression.Par (expressions parts.items)
expression_step (RefExpr-F.Seq parts) = expression.Seq (expressions parts.items)
expression_step (RefExpr-F.Opt part) = expression.Opt (box_value part)
expression_step (RefExpr-F.Loop lower upper part) = expression.Loop lower upper (box_value part)

abbrev pub expression_view : RefExpr → Expression
expression_view = fold-RefExpr Expression expression_step

-- ---- items, operands and statements

abbrev pub reference_view : RawReference → Reference
reference_view r = record { name = r.name; expression = expression_view r.expr; joins = r.joins; shared = r.shared }

abbrev pub form_step : RawForm-F tree.Form tree.Operand tree.Statement tree.Form tree.Item → tree.Form
form_step (RawForm-F.Single event) = tree.Single event
form_step (RawForm-F.Coregion events) = tree.Coregion events
form_step (RawForm-F.Condition names shared) = tree.Condition names shared
form_step (RawForm-F.Inline inline) = inline
form_step (RawForm-F.Reference reference) = tree.Refer (reference_view reference)
form_step RawForm-F.Stop = tree.Stop

abbrev pub operand_step : RawOperand-F tree.Form tree.Operand tree.Statement tree.Form tree.Item → tree.Operand
operand_step (RawOperand::Column held) = tree.InColumn (items held.items)
operand_step (RawOperand::Covered held) = tree.Outside (statements held.items)

abbrev pub statement_step : Statement-F tree.Form tree.Operand tree.Statement tree.Form tree.Item → tree.Statement
statement_step (Statement::Column decl held) = tree.Column decl (items held.items)
statement_step (Statement-F.One cover held) = tree.Covered cover (items (held ∷ []))
statement_step (Statement::Covered cover held) = tree.Covered cover (items held.items)
statement_step (Statement-F.Heading decl) = tree.Heading decl
statement_step (Statement-F.Ended instance_name) = tree.Ended instance_name

abbrev pub inline_step : RawInline-F tree.Form tree.Operand tree.Statement tree.Form tree.Item → tree.Form
inline_step i = tree.Inline (record { form = i.form; lower = i.lower; upper = i.upper; name = i.name; shared = i.shared }) (operands i.operands.items)

abbrev pub item_step : RawItem-F tree.Form tree.Operand tree.Statement tree.Form tree.Item → tree.Item
item_step i = tree.placed i.place i.form

abbrev pub form_view : RawForm → tree.Form
form_view = fold-RawForm tree.Form tree.Operand tree.Statement tree.Form tree.Item form_step operand_step statement_step inline_step item_step

abbrev pub operand_view : RawOperand → tree.Operand
operand_view = fold-RawOperand tree.Form tree.Operand tree.Statement tree.Form tree.Item form_step operand_step statement_step inline_step item_step

abbrev pub statement_view : Statement → tree.Statement
statement_view = fold-Statement tree.Form tree.Operand tree.Statement tree.Form tree.Item form_step operand_step statement_step inline_step item_step

abbrev pub inline_view : RawInline → tree.Form
inline_view = fold-RawInline tree.Form tree.Operand tree.Statement tree.Form tree.Item form_step operand_step statement_step inline_step item_step

abbrev pub item_view : RawItem → tree.Item
item_view = fold-RawItem tree.Form tree.Operand tree.Statement tree.Form tree.Item form_step operand_step statement_step inline_step item_step

-- ---- graphs

abbrev pub node_step : NodeKind-F graph.Node graph.Graph graph.Line → graph.Node
node_step NodeKind-F.Ends = graph.Ends
node_step NodeKind-F.Connect = graph.Connect
node_step (NodeKind-F.Condition names) = graph.Condition names
node_step (NodeKind-F.Refer expr) = graph.Refer (expression_view expr)
node_step (NodeKind-F.Frames frames) = graph.Frames (graph.graphs frames.items)

abbrev pub graph_step : RawGraph-F graph.Node graph.Graph graph.Line → graph.Graph
graph_step g = graph.graph g.starts (graph.lines g.lines.items)

abbrev pub line_step : RawLine-F graph.Node graph.Graph graph.Line → graph.Line
line_step l = graph.line l.label l.place l.node l.next

abbrev pub node_view : NodeKind → graph.Node
node_view = fold-NodeKind graph.Node graph.Graph graph.Line node_step graph_step line_step

abbrev pub graph_view : RawGraph → graph.Graph
graph_view = fold-RawGraph graph.Node graph.Graph graph.Line node_step graph_step line_step

abbrev pub line_view : RawLine → graph.Line
line_view = fold-RawLine graph.Node graph.Graph graph.Line node_step graph_step line_step

-- ---- charts

abbrev pub content_view : Content → chart.Content
content_view (Events held) = chart.Basic (map statement_view held.items)
content_view (Graph held) = chart.HighLevel (graph_view held)

abbrev pub chart_view : RawChart → Chart
chart_view c = record {
  name = c.name;
  place = c.place;
  decls = c.decls;
  messages = c.messages;
  timers = c.timers;
  content = content_view c.content;
}

abbrev pub document_view : RawDocument → Document
document_view d = record { heading = d.heading; charts = map chart_view d.charts.items }
