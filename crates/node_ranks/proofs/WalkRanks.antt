-- The nodes of each graph of an expansion are ranked, construct by construct, and chart by chart.
use Rattle.std.specs.Prelude.{ℕ, zero, suc, ◌≤◌, List, []}
use Rattle.std.proofs.Common.{arith}
use Rattle.msc_base.specs.declared.label.LabelRef.{LabelRef}
use Rattle.msc_tree.specs.Graphs as graphs
use Rattle.msc_tree.specs.Graphs.{graph, Lines, no_lines, line_and, line, Node, Ends, Connect, Condition, Frames, Graphs, no_graphs, graph_and}
use Rattle.hmsc_graph.specs.declared.shape.Shape.{Shape}
use Rattle.msc_meaning.specs.Bodies.{WovenItems}
use Rattle.msc_meaning.specs.FarEnds.{GateMap, no_gates}
use Rattle.msc_meaning.specs.InnerEvents.{GateEnd}
use Rattle.msc_meaning.specs.Tables.{Table}
use Rattle.expansion_tree.specs.Expansions.{Expansions, map_events, map_all_events, events_in, all_events_in}
use Rattle.expansion_tree.specs.Walks.{EachWalk, EachWalkIn}
use Rattle.expansion_tree.specs.declared.tree.ExpandedEvent.{ExpandedEvent}
use Rattle.expansion_order.specs.Ranks.{CanBeRanked}
use Rattle.expanded_charts.specs.Expanding.{Charts, Expanded, ExpandedParts, NumberedEvent, expand_graph, expand_lines, expand_node, expand_frames, expand_charts}
use Rattle.node_ranks.specs.NamedCharts.{IsNestedTo, LinesNameOnly, NodeNamesOnly, FramesNameOnly}
use Rattle.node_ranks.specs.NodeRanks.{AreRankedAlone, EachPart, KeepsNumbers, NodesAreRanked, TellsNames}
use Rattle.node_ranks.proofs.AloneRanks.{alone_ranked, less_deep}
use Rattle.node_ranks.proofs.ExpressionRanks.{lines_ranked, tells_left, tells_right}
use Rattle.node_ranks.proofs.Families.{Family, PartsFamily, IsKept, expression_kept, entry_kept}
use Rattle.node_ranks.proofs.Placed.{HasPlaces, charts_placed}

abbrev HasRankedNodes : ℕ → Shape → Expansions ExpandedEvent → Type 0
HasRankedNodes m s xs = EachPart CanBeRanked xs

-- ---- constructs

module _ (g : NumberedEvent → ExpandedEvent) where
  abbrev IsWalked : Expanded → Type 0
  IsWalked e = TellsNames g (events_in e.part) → EachWalk HasRankedNodes (map_events g e.part)

  abbrev AreWalked : ExpandedParts → Type 0
  AreWalked l = TellsNames g (all_events_in l.parts) → EachWalkIn HasRankedNodes (map_all_events g l.parts)

  abbrev HasWalks : Family → Family → Type 0
  HasWalks e d = (n : ℕ) → IsWalked (e n)

  abbrev HaveWalks : PartsFamily → PartsFamily → Type 0
  HaveWalks l k = (n : ℕ) → AreWalked (l n)

  walked_kept : IsKept HasWalks HaveWalks
  walked_kept = record {
    nothing = λ n t. tt;
    then = λ e d l k h i n t. (h n (tells_left g (events_in (e n).part) (all_events_in (l (e n).next).parts) t), i (e n).next (tells_right g (events_in (e n).part) (all_events_in (l (e n).next).parts) t));
    in_row = λ l k h n t. h n t;
    aside = λ l k h n t. h n t;
    one_of = λ l k h n t. h n t;
    or_nothing = λ e d h n t. (h n (tells_left g (events_in (e n).part) [] t), (tt, tt));
    exception = λ e d h n t. h n t;
    turns = λ lower upper e d h n t. h n t;
    tied = λ ts e d h n t. h n t;
    past = λ f e d h n t. h n t;
    event = λ h n t. tt;
  }

  module _ (keeps : KeepsNumbers g) (ends_of : WovenItems → List GateEnd) (chart : Charts) (Named : List ℕ → Type 0) (places : (name : List ℕ) (gates : GateMap) → Named name → HasPlaces (chart name gates) (chart name gates))
      (ranks : (name : List ℕ) (n : ℕ) → Named name → TellsNames g (events_in (chart name no_gates n).part) → CanBeRanked (map_events g (chart name no_gates n).part))
      (known : (name : List ℕ) (gates : GateMap) → Named name → HasWalks (chart name gates) (chart name gates)) where
    mutual
      lines_walked : (lines : Lines) → LinesNameOnly Named lines → (n : ℕ) → AreWalked (expand_lines chart ends_of n lines)
      lines_walked no_lines w n t = tt
      lines_walked (line_and (line label place node next) rest) (w, v) n t =
          let e = expand_node chart ends_of n node in
          let l = expand_lines chart ends_of e.next rest in
          (node_walked node w n (tells_left g (events_in e.part) (all_events_in l.parts) t), lines_walked rest v e.next (tells_right g (events_in e.part) (all_events_in l.parts) t))

      node_walked : (node : Node) → NodeNamesOnly Named node → (n : ℕ) → IsWalked (expand_node chart ends_of n node)
      node_walked Ends w n t = tt
      node_walked Connect w n t = tt
      node_walked (Condition names) w n t = tt
      node_walked (graphs.Refer e) w n t = expression_kept HasWalks HaveWalks walked_kept ends_of chart chart Named known no_gates e w n t
      node_walked (Frames held) w n t = frames_walked held w n t

      frames_walked : (held : Graphs) → FramesNameOnly Named held → (n : ℕ) → AreWalked (expand_frames chart ends_of n held)
      frames_walked no_graphs w n t = tt
      frames_walked (graph_and (graph starts lines) rest) (w, v) n t =
          let e = expand_graph chart ends_of n (graph starts lines) in
          let l = expand_frames chart ends_of e.next rest in
          let here = tells_left g (events_in e.part) (all_events_in l.parts) t in
          ((lines_ranked g keeps ends_of chart Named places ranks (suc n) lines w here, lines_walked lines w (suc n) here), frames_walked rest v e.next (tells_right g (events_in e.part) (all_events_in l.parts) t))

    graph_walked : (starts : List LabelRef) (lines : Lines) → LinesNameOnly Named lines → HasWalks (λ n. expand_graph chart ends_of n (graph starts lines)) (λ n. expand_graph chart ends_of n (graph starts lines))
    graph_walked starts lines w n t = (lines_ranked g keeps ends_of chart Named places ranks (suc n) lines w t, lines_walked lines w (suc n) t)

-- ---- charts

module _ (g : NumberedEvent → ExpandedEvent) (keeps : KeepsNumbers g) (ends_of : WovenItems → List GateEnd) (table : Table) (bound : ℕ) where
  ranks_of : (depth : ℕ) → depth ≤ bound → AreRankedAlone ends_of table (suc depth) bound → (name : List ℕ) (n : ℕ) → IsNestedTo table depth name → TellsNames g (events_in (expand_charts ends_of table depth name no_gates n).part)
      → CanBeRanked (map_events g (expand_charts ends_of table depth name no_gates n).part)
  ranks_of depth low alone name n w = alone_ranked ends_of table depth name n g keeps w (less_deep ends_of table depth bound name low w (alone depth name (omega arith) w))

  charts_walked : (depth : ℕ) → depth ≤ bound → AreRankedAlone ends_of table depth bound → (name : List ℕ) (gates : GateMap) → IsNestedTo table depth name → HasWalks g (expand_charts ends_of table depth name gates) (expand_charts ends_of table depth name gates)
  charts_walked zero low alone name gates w = absurd w
  charts_walked (suc depth) low alone name gates w =
      let known = charts_walked depth (omega (arith, low)) (λ k other l v. alone k other (omega (arith, l)) v) in
      entry_kept (HasWalks g) (HaveWalks g) (walked_kept g) ends_of (expand_charts ends_of table depth) (expand_charts ends_of table depth) (IsNestedTo table depth) known
      (graph_walked g keeps ends_of (expand_charts ends_of table depth) (IsNestedTo table depth) (charts_placed ends_of table depth) (ranks_of depth (omega (arith, low)) alone) known) table name gates w

pub nodes_are_ranked : NodesAreRanked
nodes_are_ranked = record {
  walks = λ ends_of table depth bound name gates n g low w alone keeps tells. charts_walked g keeps ends_of table bound depth low alone name gates w n tells;
  lines = λ ends_of table depth bound held n g low w alone keeps tells.
      let less : AreRankedAlone ends_of table depth bound = λ k other l v. alone k other (omega (arith, l)) v in (
        lines_ranked g keeps ends_of (expand_charts ends_of table depth) (IsNestedTo table depth) (charts_placed ends_of table depth) (ranks_of g keeps ends_of table bound depth low alone) n held w tells,
        lines_walked g keeps ends_of (expand_charts ends_of table depth) (IsNestedTo table depth) (charts_placed ends_of table depth) (ranks_of g keeps ends_of table bound depth low alone) (charts_walked g keeps ends_of table bound depth low less) held w n tells,
      );
}
