-- The walks of an expansion are through the graphs of the charts that it names, construct by construct.
use Rattle.std.specs.Prelude.{ℕ, zero, suc, ◌≤◌, true, List, [], ◌∷◌, ◌++◌, Option, Some, length}
use Rattle.std.proofs.Common.{◌≡◌, refl, sym, ap, subst, arith}
use Rattle.msc_base.specs.declared.label.LabelRef.{LabelRef}
use Rattle.msc_base.specs.Orders.{Among, first, later}
use Rattle.hmsc_graph.specs.declared.shape.Shape.{Shape}
use Rattle.sound_terms.proofs.Ordering.{among_left, among_right}
use Rattle.msc_tree.specs.Graphs as graphs
use Rattle.msc_tree.specs.Graphs.{Graph, graph, Lines, no_lines, line_and, line, Node, Ends, Connect, Condition, Frames, Graphs, no_graphs, graph_and}
use Rattle.graph_shapes.specs.GraphLists.{frames_in, frames_of, graphs_among, graphs_in}
use Rattle.graph_shapes.specs.GraphShapes.{is_end, shape_lines, shape_of}
use Rattle.msc_meaning.specs.Bodies.{WovenItems}
use Rattle.msc_meaning.specs.FarEnds.{GateMap, no_gates}
use Rattle.msc_meaning.specs.InnerEvents.{GateEnd}
use Rattle.msc_meaning.specs.Tables.{Table, ChartEntry, chart_at, Woven, Basic, HighLevel}
use Rattle.expansion_tree.specs.Expansions.{Expansion, InRow, Expansions, no_parts, part_and, map_events, map_all_events}
use Rattle.expansion_tree.specs.Expansions as tree
use Rattle.expansion_tree.specs.Numbered as numbered
use Rattle.expansion_tree.specs.Walks.{EachWalk, EachWalkIn}
use Rattle.expansion_tree.specs.declared.tree.ExpandedEvent.{ExpandedEvent}
use Rattle.expanded_charts.specs.Expanding.{NumberedEvent, Charts, expand_charts, expand_frames, expand_graph, expand_lines, expand_node}
use Rattle.expansion_terms.specs.MadeTerms.{parts_count}
use Rattle.node_ranks.specs.NamedCharts.{HasEntry, LinesNameOnly, NodeNamesOnly, FramesNameOnly}
use Rattle.node_ranks.proofs.Families.{Family, PartsFamily, IsKept, IsDrawn, drawn_entry_kept, expression_kept}
use Rattle.made_terms.specs.DrawnWalks.{AreEnding, AreOfLines, IsDrawnGraph, IsEndingShape, IsEndingTo, WalksAreDrawn, woven_graphs}
use Rattle.made_terms.specs.MadeTerms.{AreEndsEmpty}

-- ---- the parts of lines

module _ (f : NumberedEvent → ExpandedEvent) (chart : Charts) (ends_of : WovenItems → List GateEnd) where
  as_many : (n : ℕ) (lines : Lines) → parts_count (map_all_events f (expand_lines chart ends_of n lines).parts) ≡ length (shape_lines lines)
  as_many n no_lines = refl
  as_many n (line_and (line label place node next) rest) = let behind = as_many (expand_node chart ends_of n node).next rest in omega (arith, behind)

  end_empty : (n : ℕ) (node : Node) → is_end node ≡ true → map_events f (expand_node chart ends_of n node).part ≡ InRow no_parts
  end_empty n Ends e = refl
  end_empty n Connect e = absurd cc
  end_empty n (Condition names) e = absurd cc
  end_empty n (graphs.Refer x) e = absurd cc
  end_empty n (Frames held) e = absurd cc

  ends_empty : (n : ℕ) (lines : Lines) → AreEndsEmpty (shape_lines lines) (map_all_events f (expand_lines chart ends_of n lines).parts)
  ends_empty n no_lines = tt
  ends_empty n (line_and (line label place node next) rest) = (end_empty n node, ends_empty (expand_node chart ends_of n node).next rest)

-- ---- walks

module _ (f : NumberedEvent → ExpandedEvent) (ends_of : WovenItems → List GateEnd) where
  abbrev HasWalks : Family → Family → Type 0
  HasWalks e d = (n : ℕ) → EachWalk (λ m s xs. IsDrawnGraph s xs) (map_events f (e n).part)

  abbrev HaveWalks : PartsFamily → PartsFamily → Type 0
  HaveWalks l k = (n : ℕ) → EachWalkIn (λ m s xs. IsDrawnGraph s xs) (map_all_events f (l n).parts)

  walks_kept : IsKept HasWalks HaveWalks
  walks_kept = record {
    nothing = λ n. tt;
    then = λ e d l k h i n. (h n, i (e n).next);
    in_row = λ l k h. h;
    aside = λ l k h. h;
    one_of = λ l k h. h;
    or_nothing = λ e d h n. (h n, (tt, tt));
    exception = λ e d h. h;
    turns = λ lower upper e d h. h;
    tied = λ ts e d h. h;
    past = λ g e d h. h;
    event = λ h n. tt;
  }

  module _ (chart : Charts) (Named : List ℕ → Type 0) (known : (name : List ℕ) (gates : GateMap) → Named name → HasWalks (chart name gates) (chart name gates)) where
    drawn_graph : (n : ℕ) (starts : List LabelRef) (lines : Lines) → IsEndingShape (shape_of (graph starts lines)) → IsDrawnGraph (shape_of (graph starts lines)) (map_all_events f (expand_lines chart ends_of n lines).parts)
    drawn_graph n starts lines good = record { ending = good; each = as_many f chart ends_of n lines; ends = ends_empty f chart ends_of n lines }

    mutual
      pub lines_drawn : (n : ℕ) (lines : Lines) → AreEnding (frames_in lines) → LinesNameOnly Named lines → EachWalkIn (λ m s xs. IsDrawnGraph s xs) (map_all_events f (expand_lines chart ends_of n lines).parts)
      lines_drawn n no_lines g w = tt
      lines_drawn n (line_and (line label place node next) rest) g w =
          (node_drawn n node (λ d i. g d (among_left (frames_of node) (frames_in rest) d i)) w.0, lines_drawn (expand_node chart ends_of n node).next rest (λ d i. g d (among_right (frames_of node) (frames_in rest) d i)) w.1)

      node_drawn : (n : ℕ) (node : Node) → AreEnding (frames_of node) → NodeNamesOnly Named node → EachWalk (λ m s xs. IsDrawnGraph s xs) (map_events f (expand_node chart ends_of n node).part)
      node_drawn n Ends g w = tt
      node_drawn n Connect g w = tt
      node_drawn n (Condition names) g w = tt
      node_drawn n (graphs.Refer e) g w = expression_kept HasWalks HaveWalks walks_kept ends_of chart chart Named known no_gates e w n
      node_drawn n (Frames held) g w = frames_drawn n held g w

      frames_drawn : (n : ℕ) (held : Graphs) → AreEnding (graphs_among held) → FramesNameOnly Named held → EachWalkIn (λ m s xs. IsDrawnGraph s xs) (map_all_events f (expand_frames chart ends_of n held).parts)
      frames_drawn n no_graphs g w = tt
      frames_drawn n (graph_and (graph starts lines) rest) g w =
          let here : AreEnding (graphs_in (graph starts lines)) = λ d i. g d (among_left (graphs_in (graph starts lines)) (graphs_among rest) d i) in (
            (drawn_graph (suc n) starts lines (here (graph starts lines) first), lines_drawn (suc n) lines (λ d i. here d (later i)) w.0),
            frames_drawn (expand_graph chart ends_of n (graph starts lines)).next rest (λ d i. g d (among_right (graphs_in (graph starts lines)) (graphs_among rest) d i)) w.1,
          )

    abbrev Drawn : List LabelRef → Lines → Type 0
    Drawn starts lines = AreEnding (graphs_in (graph starts lines))

    graph_drawn : (starts : List LabelRef) (lines : Lines) → Drawn starts lines → LinesNameOnly Named lines → HasWalks (λ n. expand_graph chart ends_of n (graph starts lines)) (λ n. expand_graph chart ends_of n (graph starts lines))
    graph_drawn starts lines d w n = (drawn_graph (suc n) starts lines (d (graph starts lines) first), lines_drawn (suc n) lines (λ g i. d g (later i)) w)

    content_drawn : (content : Woven) → AreEnding (woven_graphs content) → IsDrawn HasWalks HaveWalks walks_kept ends_of chart chart Named known Drawn graph_drawn content
    content_drawn (Basic held) g = tt
    content_drawn (HighLevel (graph starts lines)) g = g

  charts_drawn : (table : Table) (depth : ℕ) (name : List ℕ) (gates : GateMap) → IsEndingTo table depth name → HasWalks (expand_charts ends_of table depth name gates) (expand_charts ends_of table depth name gates)
  charts_drawn table zero name gates w = absurd w
  charts_drawn table (suc depth) name gates w =
      let known = charts_drawn table depth in
      drawn_entry_kept HasWalks HaveWalks walks_kept ends_of (expand_charts ends_of table depth) (expand_charts ends_of table depth) (IsEndingTo table depth) known (Drawn (expand_charts ends_of table depth) (IsEndingTo table depth) known)
      (graph_drawn (expand_charts ends_of table depth) (IsEndingTo table depth) known) table name gates w.has
      (content_drawn (expand_charts ends_of table depth) (IsEndingTo table depth) known w.has.entry.content w.graphs)

pub walks_are_drawn : WalksAreDrawn
walks_are_drawn = record {
  walks = λ f ends_of table depth name gates n has graphs. charts_drawn f ends_of table (suc depth) name gates (record { has = has; graphs = graphs }) n;
  lines = λ f ends_of table depth n held w frames. lines_drawn f ends_of (expand_charts ends_of table depth) (IsEndingTo table depth) (charts_drawn f ends_of table depth) n held frames w;
  parts = λ f ends_of table depth n held. record { each = as_many f (expand_charts ends_of table depth) ends_of n held; ends = ends_empty f (expand_charts ends_of table depth) ends_of n held };
}
