-- What the text of a chart says of charts, in its order: which its references or the nodes of its graph name, and by which its instances
-- are decomposed (Z.120, clauses 4.2, 7.3 and 7.5).
use Rattle.std.specs.Prelude.{◌≡◌, ◌⊎◌, ◌+◌, ℕ, List, [], ◌∷◌, ◌++◌, Option, None, Some}
use Rattle.std.specs.List.{flat_map}
use Rattle.chart_text.specs.Texts.{Standing, Passage, a_head, a_statement, an_item, an_operand, Scope, Whole, chart_text, covered_scope, own_scope}
use Rattle.graph_text.specs.GraphTexts.{GraphPart, a_graph, a_line, graph_parts}
use Rattle.msc_base.specs.declared.place.Place.{Place}
use Rattle.msc_tree.specs.declared.chart.Decl.{Decl}
use Rattle.msc_tree.specs.Charts.{Chart, Content, Basic, HighLevel}
use Rattle.msc_tree.specs.Expressions.{Expression, Expressions}
use Rattle.msc_tree.specs.Expressions as expression
use Rattle.msc_tree.specs.Graphs.{Node}
use Rattle.msc_tree.specs.Graphs as graph
use Rattle.msc_tree.specs.Statements.{Form, Single, Coregion, Condition, Inline, Refer, Stop, Statement, Column, Covered, Heading, Ended}

pub data Link : Type 0 where
  -- a reference at that place, which covers these instances, or a node at the place of its line names the chart, so deep in the nesting of
  -- its own
  Refers : List ℕ → Place → Scope → ℕ → Link
  -- the first name is an instance, which the chart of the second refines, as is said at that place
  Refines : List ℕ → List ℕ → Place → Link

-- the chart that it names
abbrev pub linked : Link → List ℕ
linked (Refers chart place scope depth) = chart
linked (Refines instance chart place) = chart

abbrev pub place_of : Link → Place
place_of (Refers chart place scope depth) = place
place_of (Refines instance chart place) = place

-- how deep in the nesting of its chart what it names stands
abbrev pub depth_of : Link → ℕ
depth_of (Refers chart place scope depth) = depth
depth_of (Refines instance chart place) = 2

-- one of them says that the instance is refined
abbrev pub IsRefined : List Link → List ℕ → Type 0
IsRefined [] name = ⊥
IsRefined (Refers chart place scope depth ∷ links) name = IsRefined links name
IsRefined (Refines instance chart place ∷ links) name = (instance ≡ name) ⊎ IsRefined links name

-- ---- references

-- the charts that an expression names, each as often as it does; each operator is a level of nesting
abbrev mutual
  pub expression_links : Place → Scope → ℕ → Expression → List Link
  expression_links place scope depth expression.Empty = []
  expression_links place scope depth (expression.Chart name) = Refers name place scope depth ∷ []
  expression_links place scope depth (expression.Alt parts) = parts_links place scope (depth + 1) parts
  expression_links place scope depth (expression.Par parts) = parts_links place scope (depth + 1) parts
  expression_links place scope depth (expression.Seq parts) = parts_links place scope (depth + 1) parts
  expression_links place scope depth (expression.Opt part) = expression_links place scope (depth + 1) part
  expression_links place scope depth (expression.Loop lower upper part) = expression_links place scope (depth + 1) part

  pub parts_links : Place → Scope → ℕ → Expressions → List Link
  parts_links place scope depth expression.none = []
  parts_links place scope depth (expression.more x xs) = expression_links place scope depth x ++ parts_links place scope depth xs

-- an item by itself: a chart is two levels of nesting, each expression that it stands in one, and a reference one
abbrev pub item_links : Standing → Place → Form → List Link
item_links s place (Refer reference) = expression_links place (covered_scope s.scope (own_scope s.side) reference.shared) (s.depth + 3) reference.expression
item_links s place (Single event) = []
item_links s place (Coregion events) = []
item_links s place (Condition names shared) = []
item_links s place (Inline head held) = []
item_links s place Stop = []

-- ---- nodes

-- an expression has the place of its line; a graph has no instances that it could leave out
abbrev pub node_links : Place → ℕ → Node → List Link
node_links place depth (graph.Refer e) = expression_links place Whole depth e
node_links place depth graph.Ends = []
node_links place depth graph.Connect = []
node_links place depth (graph.Condition names) = []
node_links place depth (graph.Frames held) = []

-- a part of a graph by itself
abbrev pub part_links : GraphPart → List Link
part_links (a_graph depth drawn) = []
part_links (a_line depth place node) = node_links place depth node

-- ---- decompositions

abbrev pub refined_links : List ℕ → Place → Option (List ℕ) → List Link
refined_links name place None = []
refined_links name place (Some chart) = Refines name chart place ∷ []

abbrev pub decl_links : Decl → List Link
decl_links d = refined_links d.name d.place d.refined

-- a statement without its items
abbrev pub statement_links : Statement → List Link
statement_links (Column decl held) = decl_links decl
statement_links (Covered cover held) = []
statement_links (Heading decl) = decl_links decl
statement_links (Ended name) = []

-- ---- charts

abbrev pub passage_links : Passage → List Link
passage_links (a_head decl) = decl_links decl
passage_links (a_statement depth scope x) = statement_links x
passage_links (an_item s place form) = item_links s place form
passage_links (an_operand s x) = []

-- of the text of a basic chart, or of a graph: the heads of a high-level chart have no use
abbrev pub used_links : Content → List Link → List Link
used_links (Basic held) links = links
used_links (HighLevel drawn) links = flat_map part_links (graph_parts 0 drawn)

-- of a whole chart
abbrev pub chart_links : Chart → List Link
chart_links chart = used_links chart.content (flat_map passage_links (chart_text chart))
