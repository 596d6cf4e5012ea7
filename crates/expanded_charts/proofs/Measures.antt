-- Why the recursion through a table ends: parts are smaller than what holds them, a chart's body or graph is no larger than its table, and
-- one reference deeper is less, however large the chart that is named.
use Rattle.std.specs.List.{slice_get}
use Rattle.std.specs.Prelude.{ℕ, zero, suc, ◌+◌, ◌*◌, ◌-◌, ◌<◌, ◌≤◌, Bool, true, false, List, [], ◌∷◌, Some, map, if◌then◌else◌}
use Rattle.std.specs.Str.{bytes_eq}
use Rattle.std.proofs.Common.{◌≡◌, ◌∙◌, refl, sym, subst, ap, arith}
use Rattle.msc_tree.specs.declared.expression.RefExpr.{RefExpr}
use Rattle.msc_tree.specs.Expressions.{Expression, Empty, Chart, Alt, Par, Seq, Opt, Loop, Expressions, none, more, expressions}
use Rattle.msc_tree.specs.Graphs as tree
use Rattle.msc_tree.specs.Graphs.{Graph, graph, Lines, no_lines, line_and, Line, line, Node, Ends, Connect, Condition, Frames, Graphs, no_graphs, graph_and}
use Rattle.msc_tree.specs.Views.{expression_view, graph_view, line_view, node_view}
use Rattle.msc_tree.specs.declared.graph.RawGraph.{RawGraph}
use Rattle.msc_tree.specs.declared.graph.RawLine.{RawLine, out-RawLine}
use Rattle.graph_shapes.proofs.ShapeViews.{line_is}
use Rattle.expanded_charts.specs.Making.{frames_view, lines_view}
use Rattle.msc_meaning.specs.declared.body.Body as rust_body
use Rattle.msc_meaning.specs.declared.body.Item as rust_item
use Rattle.msc_meaning.specs.Bodies.{Body, level, WovenItems, no_items, item_and, WovenItem, Single, Coregion, Inline, Refer, Bodies, no_bodies, body_and}
use Rattle.msc_meaning.specs.ItemViews.{bodies_view, items_view}
use Rattle.msc_meaning.specs.Tables.{Table, ChartEntry, chart_at, Woven, Basic, HighLevel, body_in, body_at}
use Rattle.msc_meaning.specs.Views.{body_view, item_view}

-- ---- sizes

abbrev mutual
  pub expression_size : Expression → ℕ
  expression_size Empty = 1
  expression_size (Chart name) = 1
  expression_size (Alt parts) = 1 + expressions_size parts
  expression_size (Par parts) = 1 + expressions_size parts
  expression_size (Seq parts) = 1 + expressions_size parts
  expression_size (Opt part) = 1 + expression_size part
  expression_size (Loop lower upper part) = 1 + expression_size part

  pub expressions_size : Expressions → ℕ
  expressions_size none = 0
  expressions_size (more x xs) = 1 + expression_size x + expressions_size xs

abbrev mutual
  pub body_size : Body → ℕ
  body_size (level cover held pairs) = 1 + items_size held

  pub items_size : WovenItems → ℕ
  items_size no_items = 0
  items_size (item_and x xs) = 1 + item_size x + items_size xs

  pub item_size : WovenItem → ℕ
  item_size (Single e) = 1
  item_size (Coregion es) = 1
  item_size (Inline form part operands) = 1 + operands_size operands
  item_size (Refer part) = 1 + expression_size part.expression

  pub operands_size : Bodies → ℕ
  operands_size no_bodies = 0
  operands_size (body_and b bs) = 1 + body_size b + operands_size bs

abbrev mutual
  pub graph_size : Graph → ℕ
  graph_size (graph starts ls) = 1 + lines_size ls

  pub lines_size : Lines → ℕ
  lines_size no_lines = 0
  lines_size (line_and x xs) = 1 + line_size x + lines_size xs

  pub line_size : Line → ℕ
  line_size (line label place node goes) = node_size node

  pub node_size : Node → ℕ
  node_size Ends = 1
  node_size Connect = 1
  node_size (Condition names) = 1
  node_size (tree.Refer expression) = 1 + expression_size expression
  node_size (Frames held) = 1 + frames_size held

  pub frames_size : Graphs → ℕ
  frames_size no_graphs = 0
  frames_size (graph_and drawn rest) = 1 + graph_size drawn + frames_size rest

abbrev pub woven_size : Woven → ℕ
woven_size (Basic b) = body_size b
woven_size (HighLevel drawn) = graph_size drawn

abbrev pub table_size : Table → ℕ
table_size [] = 0
table_size (c ∷ table) = woven_size c.content + table_size table

-- deeper in the references, and at one depth larger
abbrev pub measure : Table → ℕ → ℕ → ℕ
measure table depth size = depth * (10 + 8 * table_size table) + size

-- ---- parts

pub item_less : (xs : List rust_item.Item) (i : ℕ) (x : rust_item.Item) → slice_get xs i ≡ Some x → item_size (item_view x) < items_size (items_view xs)
item_less [] i x e = absurd cc
item_less (y ∷ xs) zero x e = let p : y ≡ x = cc in omega (arith, ap (λ (z : rust_item.Item). item_size (item_view z)) p)
item_less (y ∷ xs) (suc i) x e = omega (arith, item_less xs i x e)

pub body_less : (bs : List rust_body.Body) (i : ℕ) (b : rust_body.Body) → slice_get bs i ≡ Some b → body_size (body_view b) < operands_size (bodies_view bs)
body_less [] i b e = absurd cc
body_less (c ∷ bs) zero b e = let p : c ≡ b = cc in omega (arith, ap (λ (z : rust_body.Body). body_size (body_view z)) p)
body_less (c ∷ bs) (suc i) b e = omega (arith, body_less bs i b e)

pub part_less : (es : List RefExpr) (i : ℕ) (e : RefExpr) → slice_get es i ≡ Some e → expression_size (expression_view e) < expressions_size (expressions (map expression_view es))
part_less [] i e h = absurd cc
part_less (d ∷ es) zero e h = let p : d ≡ e = cc in omega (arith, ap (λ (z : RefExpr). expression_size (expression_view z)) p)
part_less (d ∷ es) (suc i) e h = omega (arith, part_less es i e h)

pub line_less : (ls : List RawLine) (i : ℕ) (l : RawLine) → slice_get ls i ≡ Some l → node_size (node_view (out-RawLine l).node) < lines_size (lines_view ls)
line_less [] i l e = absurd cc
line_less (k ∷ ls) zero l e = let p : k ≡ l = cc in omega (arith, ap (λ (z : RawLine). line_size (line_view z)) p, ap line_size (line_is l))
line_less (k ∷ ls) (suc i) l e = omega (arith, line_less ls i l e)

pub frame_less : (gs : List RawGraph) (i : ℕ) (g : RawGraph) → slice_get gs i ≡ Some g → graph_size (graph_view g) < frames_size (frames_view gs)
frame_less [] i g e = absurd cc
frame_less (f ∷ gs) zero g e = let p : f ≡ g = cc in omega (arith, ap (λ (z : RawGraph). graph_size (graph_view z)) p)
frame_less (f ∷ gs) (suc i) g e = omega (arith, frame_less gs i g e)

-- ---- a chart of the table

entry_fits : (c : ChartEntry) (b : Body) → body_in (Some c) ≡ Some b → body_size b ≤ woven_size c.content
entry_fits c b e = by c.content e
  where
    by : (w : Woven) → body_in (Some (record c { content = w })) ≡ Some b → body_size b ≤ woven_size w
    by (Basic d) e = let p : d ≡ b = cc in omega (arith, ap body_size p)
    by (HighLevel drawn) e = absurd cc

pub body_fits : (table : Table) (name : List ℕ) (b : Body) → body_at table name ≡ Some b → body_size b ≤ table_size table
body_fits [] name b e = absurd cc
body_fits (c ∷ table) name b e = by (bytes_eq c.name name) e (λ f. body_fits table name b f)
  where
    by : (t : Bool) → body_in (if t then Some c else chart_at table name) ≡ Some b → (body_at table name ≡ Some b → body_size b ≤ table_size table) → body_size b ≤ woven_size c.content + table_size table
    by true e f = let here = entry_fits c b e in omega (arith, here)
    by false e f = let there = f e in omega (arith, there)

pub graph_fits : (table : Table) (name : List ℕ) (c : ChartEntry) (drawn : Graph) → chart_at table name ≡ Some c → c.content ≡ HighLevel drawn → graph_size drawn ≤ table_size table
graph_fits [] name c drawn e is = absurd cc
graph_fits (d ∷ table) name c drawn e is = by (bytes_eq d.name name) e (λ f. graph_fits table name c drawn f is)
  where
    by : (t : Bool) → (if t then Some d else chart_at table name) ≡ Some c → (chart_at table name ≡ Some c → graph_size drawn ≤ table_size table) → graph_size drawn ≤ woven_size d.content + table_size table
    by true f behind = let same : d ≡ c = cc in let here : woven_size d.content ≡ graph_size drawn = ap (λ (x : ChartEntry). woven_size x.content) same ∙ ap woven_size is in omega (arith, here)
    by false f behind = let there = behind f in omega (arith, there)

times_more : (k m s : ℕ) → s < m → k * m + s < suc k * m
times_more k m s l = omega (arith, l)

-- one reference deeper
one_deeper : (table : Table) (d s : ℕ) → (d ≡ 0 → ⊥) → s < 10 + 8 * table_size table → measure table (d - 1) s < measure table d 0
one_deeper table zero s n l = absurd (n refl)
one_deeper table (suc k) s n l =
    let less = times_more k (10 + 8 * table_size table) s l in
    let same : suc k - 1 ≡ k = omega arith in
    subst (λ (j : ℕ). measure table j s < measure table (suc k) 0) (sym same) (omega (arith, less))

-- a body of the table, with all that refines it
pub deeper : (table : Table) (d : ℕ) (b : Body) → (d ≡ 0 → ⊥) → body_size b ≤ table_size table → measure table (d - 1) (4 * table_size table + 4 * body_size b + 9) < measure table d 0
deeper table d b n l = one_deeper table d (4 * table_size table + 4 * body_size b + 9) n (omega (arith, l))

-- a graph of the table
pub graph_deeper : (table : Table) (d : ℕ) (drawn : Graph) → (d ≡ 0 → ⊥) → graph_size drawn ≤ table_size table → measure table (d - 1) (4 * graph_size drawn) < measure table d 0
graph_deeper table d drawn n l = one_deeper table d (4 * graph_size drawn) n (omega (arith, l))
