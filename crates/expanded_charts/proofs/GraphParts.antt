-- Graphs as parts: their lines and frames, one behind another.
use Rattle.std.proofs.Common.{◌≡◌, ◌∙◌, ◌<◌, ◌-◌, ◌+◌, ℕ, zero, suc, List, [], ◌∷◌, ◌++◌, Some, refl, sym, subst, ap, get_or, length, map, take, arith}
use Rattle.std.specs.Global.{Global}
use Rattle.std.specs.declared.vec.Vec.{Vec}
use Rattle.msc_tree.specs.Graphs as tree
use Rattle.msc_tree.specs.Graphs.{Graph, graph, graphs, Line, line, lines}
use Rattle.msc_tree.specs.Views.{expression_view, graph_step, graph_view, line_step, line_view, node_step, node_view}
use Rattle.msc_tree.specs.declared.expression.RefExpr.{RefExpr}
use Rattle.msc_tree.specs.declared.graph.NodeKind.{fold-roll-NodeKind}
use Rattle.msc_tree.specs.declared.graph.NodeKind.TheOpen.{NodeKind-F}
use Rattle.msc_tree.specs.declared.graph.NodeKind.TheVariants as raw
use Rattle.msc_tree.specs.declared.graph.RawGraph.{RawGraph, out-RawGraph}
use Rattle.msc_tree.specs.declared.graph.RawLine.{RawLine, out-RawLine}
use Rattle.graph_shapes.specs.GraphNets.{lines_of}
use Rattle.graph_shapes.specs.GraphShapes.{shape_of}
use Rattle.graph_shapes.proofs.ShapeViews.{graph_is, line_is, map_taken}
use Rattle.msc_meaning.specs.FarEnds.{GateMap}
use Rattle.msc_meaning.specs.Tables.{Table, ChartEntry, chart_at, Woven, HighLevel, Refinement, refinements}
use Rattle.level_surroundings.specs.TableEnds.{ends_in}
use Rattle.expanded_charts.specs.Expanding.{Expanded, ExpandedParts, expand_woven, put, walk}
use Rattle.expanded_charts.specs.Making.{AreMade, IsAdded, IsMade, add, chart_part, charts, frames_parts, frames_view, graph_part, lines_parts, lines_view, node_part}
use Rattle.expanded_charts.specs.declared.made.Made.{Made}
use Rattle.expanded_charts.specs.declared.made.MadeParts.{MadeParts}
use Rattle.expanded_charts.specs.declared.numbering.Numbering.{Numbering}
use Rattle.expanded_charts.proofs.EventParts.{one_more, put_add}
use Rattle.expanded_charts.proofs.Loops.{one_more as part_more}

-- ---- charts

graph_woven : (table : Table) (depth : ℕ) (gates : GateMap) (n : ℕ) (rs : List Refinement) (drawn : Graph) → expand_woven (charts table depth) (ends_in table) table gates n rs (HighLevel drawn) ≡ graph_part table depth n drawn
graph_woven table depth gates n [] drawn = refl
graph_woven table depth gates n (r ∷ rs) drawn = refl

pub chart_graph : (table : Table) (gates : GateMap) (n : ℕ) (name : List ℕ) (depth : ℕ) (c : ChartEntry) (drawn : Graph) → (depth ≡ 0 → ⊥) → chart_at table name ≡ Some c → c.content ≡ HighLevel drawn
    → chart_part table depth gates n name ≡ graph_part table (depth - 1) n drawn
chart_graph table gates n name zero c drawn some at is = absurd (some refl)
chart_graph table gates n name (suc k) c drawn some at is =
    let less : suc k - 1 ≡ k = omega arith in
    (rw at (ap (λ (w : Woven). expand_woven (charts table k) (ends_in table) table gates n (refinements c.decls) w) is)) ∙ (graph_woven table k gates n (refinements c.decls) drawn ∙ ap (λ d. graph_part table d n drawn) (sym less))

-- ---- graphs

module _ (table : Table) (depth : ℕ) where
  walk_is : (n : ℕ) (drawn : Graph) → graph_part table depth n drawn ≡ walk n (shape_of drawn) (lines_parts table depth (suc n) (lines_of drawn))
  walk_is n (graph starts ls) = refl

  pub graph_part_is : (n : ℕ) (g : RawGraph) → graph_part table depth n (graph_view g) ≡ walk n (shape_of (graph_view g)) (lines_parts table depth (suc n) (lines_view (out-RawGraph g).lines.items))
  graph_part_is n g = walk_is n (graph_view g) ∙ ap (λ (d : Graph). walk n (shape_of (graph_view g)) (lines_parts table depth (suc n) (lines_of d))) (graph_is g)

  abbrev line_part : ℕ → Line → Expanded
  line_part n (line label place node goes) = node_part table depth n node

  lines_snoc : (n : ℕ) (xs : List Line) (x : Line) → lines_parts table depth n (lines (xs ++ x ∷ [])) ≡ add (lines_parts table depth n (lines xs)) (line_part (lines_parts table depth n (lines xs)).next x)
  lines_snoc n [] (line label place node goes) = one_more n (node_part table depth n node)
  lines_snoc n (line label place node goes ∷ xs) x =
      let first = node_part table depth n node in
      ap (put first) (lines_snoc first.next xs x) ∙ put_add first (lines_parts table depth first.next (lines xs)) (line_part (lines_parts table depth first.next (lines xs)).next x)

  frames_snoc : (n : ℕ) (gs : List Graph) (g : Graph) → frames_parts table depth n (graphs (gs ++ g ∷ [])) ≡ add (frames_parts table depth n (graphs gs)) (graph_part table depth (frames_parts table depth n (graphs gs)).next g)
  frames_snoc n [] g = one_more n (graph_part table depth n g)
  frames_snoc n (f ∷ gs) g =
      let first = graph_part table depth n f in
      ap (put first) (frames_snoc first.next gs g) ∙ put_add first (frames_parts table depth first.next (graphs gs)) (graph_part table depth (frames_parts table depth first.next (graphs gs)).next g)

  module _ (old mid new : Numbering) (first : ℕ) (was : MadeParts) (made : Made) (parts : MadeParts) (added : IsAdded was made parts) where
    pub lines_step : (ls : List RawLine) (i : ℕ) (l : RawLine) → i < length ls → l ≡ get_or ls i l → AreMade old mid (lines_parts table depth first (lines_view (take i ls))) was → IsMade mid new (node_part table depth was.next (node_view (out-RawLine l).node)) made
        → AreMade old new (lines_parts table depth first (lines_view (take (i + 1) ls))) parts
    lines_step ls i l low is h one =
        let before = map line_view (take i ls) in
        subst (λ (xs : List Line). AreMade old new (lines_parts table depth first (lines xs)) parts) (sym (map_taken line_view ls i l low is))
        (subst (λ (ps : ExpandedParts). AreMade old new ps parts) (sym (lines_snoc first before (line_view l)))
        (part_more old mid new (lines_parts table depth first (lines before)) (λ n. line_part n (line_view l)) was made parts h (subst (λ (x : Line). IsMade mid new (line_part was.next x) made) (sym (line_is l)) one) added))

    pub frames_step : (gs : List RawGraph) (i : ℕ) (g : RawGraph) → i < length gs → g ≡ get_or gs i g → AreMade old mid (frames_parts table depth first (frames_view (take i gs))) was → IsMade mid new (graph_part table depth was.next (graph_view g)) made
        → AreMade old new (frames_parts table depth first (frames_view (take (i + 1) gs))) parts
    frames_step gs i g low is h one =
        let before = map graph_view (take i gs) in
        subst (λ (xs : List Graph). AreMade old new (frames_parts table depth first (graphs xs)) parts) (sym (map_taken graph_view gs i g low is))
        (subst (λ (ps : ExpandedParts). AreMade old new ps parts) (sym (frames_snoc first before (graph_view g)))
        (part_more old mid new (frames_parts table depth first (graphs before)) (λ n. graph_part table depth n (graph_view g)) was made parts h one added))

-- ---- nodes

pub ends_is : node_view raw.Ends ≡ tree.Ends
ends_is = ap node_view (sym raw.rolls-Ends) ∙ fold-roll-NodeKind tree.Node tree.Graph tree.Line node_step graph_step line_step NodeKind-F.Ends

pub connect_is : node_view raw.Connect ≡ tree.Connect
connect_is = ap node_view (sym raw.rolls-Connect) ∙ fold-roll-NodeKind tree.Node tree.Graph tree.Line node_step graph_step line_step NodeKind-F.Connect

pub condition_is : (names : List (List ℕ)) → node_view (raw.Condition names) ≡ tree.Condition names
condition_is names = ap node_view (sym (raw.rolls-Condition names)) ∙ fold-roll-NodeKind tree.Node tree.Graph tree.Line node_step graph_step line_step (NodeKind-F.Condition names)

pub refer_is : (x : RefExpr) → node_view (raw.Refer x) ≡ tree.Refer (expression_view x)
refer_is x = ap node_view (sym (raw.rolls-Refer x)) ∙ fold-roll-NodeKind tree.Node tree.Graph tree.Line node_step graph_step line_step (NodeKind-F.Refer x)

pub frames_is : (held : Vec RawGraph Global) → node_view (raw.Frames held) ≡ tree.Frames (frames_view held.items)
frames_is held = ap node_view (sym (raw.rolls-Frames held)) ∙ fold-roll-NodeKind tree.Node tree.Graph tree.Line node_step graph_step line_step (NodeKind-F.Frames held)
