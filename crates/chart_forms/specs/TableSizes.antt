-- The expanded size of a chart of a table, by what it and the charts that it names are woven to.
use Rattle.std.specs.Prelude.{ℕ, zero, suc, ◌+◌, List, [], ◌∷◌, Option, None, Some, length}
use Rattle.gate_ends.specs.FoundEnds.{inner_to}
use Rattle.gate_ends.specs.JoinCounts.{reference_count}
use Rattle.general_ordering.specs.OrderCounts.{order_count, orders_count}
use Rattle.msc_base.specs.declared.limits.TheConstants.Limits.{EXPANDED_NESTING}
use Rattle.msc_tree.specs.Expressions.{Expression, Empty, Chart, Alt, Par, Seq, Opt, Expressions, none, more}
use Rattle.msc_tree.specs.Expressions as expression
use Rattle.msc_tree.specs.Graphs.{Graph, Lines, Line, Node, Graphs}
use Rattle.msc_tree.specs.Graphs as graph
use Rattle.msc_meaning.specs.Bodies.{ReferencePart, Body, level, WovenItems, no_items, item_and, WovenItem, Single, Coregion, Inline, Refer, Bodies, no_bodies, body_and}
use Rattle.msc_meaning.specs.Tables.{Table, ChartEntry, chart_at, body_at, Woven, Basic, HighLevel, Refinement, refinements}

-- size_of: of the chart of that name; product: what the joins of a level's reference add
module _ (size_of : List ℕ → ℕ) (product : WovenItems → ReferencePart → ℕ) where
  abbrev mutual
    pub expression_size : Expression → ℕ
    expression_size Empty = 1
    expression_size (Chart name) = size_of name
    expression_size (Alt parts) = 1 + expressions_size parts
    expression_size (Par parts) = 1 + expressions_size parts
    expression_size (Seq parts) = 1 + expressions_size parts
    expression_size (Opt part) = 2 + expression_size part
    expression_size (expression.Loop lower upper part) = 2 + expression_size part

    pub expressions_size : Expressions → ℕ
    expressions_size none = 0
    expressions_size (more x xs) = expression_size x + expressions_size xs

  abbrev mutual
    pub level_size : Body → ℕ
    level_size (level cover held pairs) = items_size held held

    -- some of the items of a level, which is the first
    pub items_size : WovenItems → WovenItems → ℕ
    items_size whole no_items = 0
    items_size whole (item_and x xs) = item_size whole x + items_size whole xs

    -- 3 for an event and 1 for each that it is ordered with, 1 and its events for a coregion, 2 for an inline expression, and for a
    -- reference 2 besides its expression
    pub item_size : WovenItems → WovenItem → ℕ
    item_size whole (Single n) = 3 + order_count n.event
    item_size whole (Coregion ns) = 1 + (length ns + length ns + length ns) + orders_count ns
    item_size whole (Inline form part operands) = 2 + operands_size operands
    item_size whole (Refer part) = 2 + expression_size part.expression + product whole part

    pub operands_size : Bodies → ℕ
    operands_size no_bodies = 0
    operands_size (body_and b bs) = 1 + level_size b + operands_size bs

  abbrev mutual
    -- a graph counts 2 and its lines, a line 2 and its node
    pub graph_size : Graph → ℕ
    graph_size (graph.graph starts held) = 2 + lines_size held

    pub lines_size : Lines → ℕ
    lines_size graph.no_lines = 0
    lines_size (graph.line_and x xs) = line_size x + lines_size xs

    pub line_size : Line → ℕ
    line_size (graph.line label place node next) = 2 + node_size node

    -- frames count 1 and their graphs
    pub node_size : Node → ℕ
    node_size graph.Ends = 0
    node_size graph.Connect = 0
    node_size (graph.Condition names) = 0
    node_size (graph.Refer e) = expression_size e
    node_size (graph.Frames held) = 1 + graphs_size held

    pub graphs_size : Graphs → ℕ
    graphs_size graph.no_graphs = 0
    graphs_size (graph.graph_and x xs) = graph_size x + graphs_size xs

  -- of a chart by itself, where it is there
  abbrev pub body_size : Option Body → ℕ
  body_size None = 0
  body_size (Some b) = 2 + level_size b

  -- of the charts that refine instances; they have no refining charts themselves
  abbrev pub refined_size : Table → List Refinement → ℕ
  refined_size table [] = 0
  refined_size table (r ∷ rs) = body_size (body_at table r.chart) + refined_size table rs

  -- of a chart with those that refine its instances
  abbrev pub woven_size : Table → List Refinement → Woven → ℕ
  woven_size table [] (Basic held) = 2 + level_size held
  woven_size table (r ∷ rs) (Basic held) = 2 + level_size held + refined_size table (r ∷ rs)
  woven_size table rs (HighLevel drawn) = graph_size drawn

  abbrev pub entry_size : Table → Option ChartEntry → ℕ
  entry_size table None = 0
  entry_size table (Some entry) = woven_size table (refinements entry.decls) entry.content

-- product: by the depth of references
abbrev pub size_to : (ℕ → WovenItems → ReferencePart → ℕ) → Table → ℕ → List ℕ → ℕ
size_to product table zero name = 0
size_to product table (suc k) name = entry_size (size_to product table k) (product k) table (chart_at table name)

-- joins between two gates add the pairs of their inner events, counted in the table
abbrev pub counted_size : Table → List ℕ → ℕ
counted_size table name = size_to (λ k. reference_count (inner_to table k)) table EXPANDED_NESTING name
