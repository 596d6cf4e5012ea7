-- In an accepted table the graphs of charts that others name are ending, and so are frames: each label is that of one line, and a walk leads
-- from the start to an end.
use Rattle.std.specs.Prelude.{◌≤◌, Bool, true, false, List, [], ◌∷◌, ◌++◌, length}
use Rattle.std.proofs.Common.{◌≡◌, ◌⊎◌, inl, inr, refl, sym, subst}
use Rattle.expanded_terms.specs.GraphWalks.{IsWholeNet, NetsAreWhole}
use Rattle.expansion_terms.specs.MadeTerms.{net_of_shape}
use Rattle.graph_rules.specs.EndingGraphs.{WalksEnd}
use Rattle.graph_rules.specs.GraphRules.{AreLabelled, HasEndlessLine, HaveFewLines, InGraphs, graphs_to_end}
use Rattle.graph_shapes.specs.GraphLists.{frames_in, frames_of, graphs_among, graphs_in}
use Rattle.graph_shapes.specs.GraphShapes.{shape_of}
use Rattle.formed_graphs.specs.FormedGraphs.{AreFormedFrames, AreFormedLines, IsFormedGraph, IsFormedNode}
use Rattle.hmsc_graph.specs.Shapes.{IsFaulty}
use Rattle.made_terms.specs.DrawnWalks.{AreEnding, IsEndingShape}
use Rattle.msc_acceptance.specs.AcceptedCharts.{IsAcceptedGraph}
use Rattle.msc_base.specs.declared.label.LabelRef.{LabelRef}
use Rattle.msc_base.specs.declared.limits.TheConstants.Limits.{NODE_LINES}
use Rattle.msc_base.specs.declared.place.Place.{Place}
use Rattle.msc_base.specs.Orders.{Among, first, later}
use Rattle.msc_tree.specs.Graphs as graphs
use Rattle.msc_tree.specs.Graphs.{Graph, graph, Lines, no_lines, line_and, line, Node, Ends, Connect, Condition, Frames, Graphs, no_graphs, graph_and}

-- ---- what all graphs have, each has

split : (a b : List Graph) (g : Graph) → Among g (a ++ b) → Among g a ⊎ Among g b
split [] b g i = inr i
split (h ∷ a) b _ first = inl first
split (h ∷ a) b g (later i) = elim (split a b g i) [ inl j ↦ inl (later j) | inr j ↦ inr j ]

few_of : (gs : List Graph) (g : Graph) → HaveFewLines gs → Among g gs → length (shape_of g).lines ≤ NODE_LINES
few_of (h ∷ gs) _ f first = f.0
few_of (h ∷ gs) g f (later i) = few_of gs g f.1 i
few_of [] g f i = elim i [ ]

labelled_of : (gs : List Graph) (g : Graph) → AreLabelled gs → Among g gs → (p : Place) → IsFaulty (shape_of g) p → ⊥
labelled_of (h ∷ gs) _ f first = f.0
labelled_of (h ∷ gs) g f (later i) = labelled_of gs g f.1 i
labelled_of [] g f i = elim i [ ]

endless_in : (gs : List Graph) (g : Graph) (p : Place) → Among g gs → HasEndlessLine (shape_of g) p → InGraphs HasEndlessLine gs p
endless_in (h ∷ gs) _ p first e = inl e
endless_in (h ∷ gs) g p (later i) e = inr (endless_in gs g p i e)
endless_in [] g p i e = elim i [ ]

mutual
  formed_in : (d g : Graph) → IsFormedGraph d → Among g (graphs_in d) → IsFormedGraph g
  formed_in (graph starts lines) _ f first = f
  formed_in (graph starts lines) g f (later i) = formed_lines lines g f.1 i

  formed_lines : (lines : Lines) (g : Graph) → AreFormedLines lines → Among g (frames_in lines) → IsFormedGraph g
  formed_lines no_lines g f i = elim i [ ]
  formed_lines (line_and (line label place node next) rest) g f i = elim (split (frames_of node) (frames_in rest) g i) [
    | inl j ↦ formed_node node g f.0 j
    | inr j ↦ formed_lines rest g f.1 j
  ]

  formed_node : (node : Node) (g : Graph) → IsFormedNode node → Among g (frames_of node) → IsFormedGraph g
  formed_node Ends g f i = elim i [ ]
  formed_node Connect g f i = elim i [ ]
  formed_node (Condition names) g f i = elim i [ ]
  formed_node (graphs.Refer e) g f i = elim i [ ]
  formed_node (Frames held) g f i = formed_frames held g f i

  formed_frames : (held : Graphs) (g : Graph) → AreFormedFrames held → Among g (graphs_among held) → IsFormedGraph g
  formed_frames no_graphs g f i = elim i [ ]
  formed_frames (graph_and d rest) g f i = elim (split (graphs_in d) (graphs_among rest) g i) [
    | inl j ↦ formed_in d g f.0 j
    | inr j ↦ formed_frames rest g f.1 j
  ]

-- ---- graphs of an accepted chart

module _ (nets : NetsAreWhole) (ends : WalksEnd) (drawn : Graph) (accepted : IsAcceptedGraph drawn) where
  pub whole_shape : (g : Graph) → Among g (graphs_in drawn) → IsWholeNet (shape_of g)
  whole_shape g i = nets (shape_of g) (labelled_of (graphs_in drawn) g accepted.labelled i) (few_of (graphs_in drawn) g accepted.few i)

  -- where none of its lines is endless
  ending_shape : (g : Graph) → Among g (graphs_in drawn) → ((p : Place) → HasEndlessLine (shape_of g) p → ⊥) → IsEndingShape (shape_of g)
  ending_shape g i none = by g (whole_shape g i) (formed_in drawn g accepted.formed i) none
    where
      by : (g : Graph) → IsWholeNet (shape_of g) → IsFormedGraph g → ((p : Place) → HasEndlessLine (shape_of g) p → ⊥) → IsEndingShape (shape_of g)
      by (graph [] lines) whole f none = absurd (no_start f.0)
        where
          no_start : false ≡ true → ⊥
          no_start e = cc
      by (graph (start ∷ others) lines) whole f none = record {
        whole = whole;
        leads = record { first = start; others = others; starts = refl; ends = ends (shape_of (graph (start ∷ others) lines)) (net_of_shape (shape_of (graph (start ∷ others) lines))) whole.drawn whole.net none };
      }

  -- frames are among those in which walks are to come to an end
  pub frames_ending : (named : Bool) → ((p : Place) → InGraphs HasEndlessLine (graphs_to_end named drawn) p → ⊥) → (starts : List LabelRef) (lines : Lines) → drawn ≡ graph starts lines → AreEnding (frames_in lines)
  frames_ending named none starts lines is g i = ending_shape g (inside drawn is) (λ p e. none p (endless_in (graphs_to_end named drawn) g p (to_end named drawn is) e))
    where
      inside : (d : Graph) → d ≡ graph starts lines → Among g (graphs_in d)
      inside d q = subst (λ (d : Graph). Among g (graphs_in d)) (sym q) (later i)

      to_end : (named : Bool) (d : Graph) → d ≡ graph starts lines → Among g (graphs_to_end named d)
      to_end true d q = inside d q
      to_end false d q = subst (λ (d : Graph). Among g (graphs_to_end false d)) (sym q) i

  -- so is the whole graph, where a chart names its own
  pub graphs_ending : ((p : Place) → InGraphs HasEndlessLine (graphs_to_end true drawn) p → ⊥) → AreEnding (graphs_in drawn)
  graphs_ending none g i = ending_shape g i (λ p e. none p (endless_in (graphs_in drawn) g p i e))
