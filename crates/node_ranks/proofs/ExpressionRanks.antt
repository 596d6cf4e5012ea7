-- What an expression comes to, and so each line of a graph, can be ranked where the charts can be that it names.
use Rattle.std.specs.Prelude.{ℕ, List, [], ◌++◌}
use Rattle.msc_tree.specs.Expressions.{Expression, Empty, Chart, Alt, Par, Seq, Opt, Expressions, none, more}
use Rattle.msc_tree.specs.Expressions as expression
use Rattle.msc_tree.specs.Graphs as graphs
use Rattle.msc_tree.specs.Graphs.{graph, Lines, no_lines, line_and, line, Node, Ends, Connect, Condition, Frames, Graphs, no_graphs, graph_and}
use Rattle.msc_meaning.specs.Bodies.{WovenItems}
use Rattle.msc_meaning.specs.FarEnds.{GateMap, no_gates}
use Rattle.msc_meaning.specs.InnerEvents.{GateEnd}
use Rattle.expansion_tree.specs.Expansions.{Expansions, map_events, map_all_events, events_in, all_events_in}
use Rattle.expansion_tree.specs.declared.tree.ExpandedEvent.{ExpandedEvent}
use Rattle.expansion_order.specs.Ranks.{AreRankedInRow, AreRanked, CanBeRanked}
use Rattle.expanded_charts.specs.Expanding.{Charts, NumberedEvent, expand, expand_all, expand_graph, expand_lines, expand_node, expand_frames}
use Rattle.node_ranks.specs.NamedCharts.{NamesOnly, NameOnly, LinesNameOnly, NodeNamesOnly}
use Rattle.node_ranks.specs.NodeRanks.{KeepsNumbers, TellsNames, EachPart}
use Rattle.node_ranks.proofs.Families.{expression_kept, parts_kept}
use Rattle.node_ranks.proofs.JoinedRanks.{joined, joined_row, row_is_all}
use Rattle.node_ranks.proofs.ListParts.{among_left, among_right}
use Rattle.node_ranks.proofs.Placed.{HasPlaces, HavePlaces, placed_kept}

pub tells_left : (g : NumberedEvent → ExpandedEvent) (es ds : List NumberedEvent) → TellsNames g (es ++ ds) → TellsNames g es
tells_left g es ds h a b i j = h a b (among_left es ds a i) (among_left es ds b j)

pub tells_right : (g : NumberedEvent → ExpandedEvent) (es ds : List NumberedEvent) → TellsNames g (es ++ ds) → TellsNames g ds
tells_right g es ds h a b i j = h a b (among_right es ds a i) (among_right es ds b j)

module _ (g : NumberedEvent → ExpandedEvent) (keeps : KeepsNumbers g) (ends_of : WovenItems → List GateEnd) (chart : Charts) (Named : List ℕ → Type 0)
    (places : (name : List ℕ) (gates : GateMap) → Named name → HasPlaces (chart name gates) (chart name gates))
    (ranks : (name : List ℕ) (n : ℕ) → Named name → TellsNames g (events_in (chart name no_gates n).part) → CanBeRanked (map_events g (chart name no_gates n).part)) where
  -- parts in a row, so also side by side
  record CanAllBeRanked (xs : Expansions NumberedEvent) : Type 0 where
    rank : ℕ → ℕ
    ranked : AreRankedInRow rank (map_all_events g xs)

  mutual
    expression_ranked : (n : ℕ) (e : Expression) → NamesOnly Named e → TellsNames g (events_in (expand chart ends_of no_gates n e).part) → CanBeRanked (map_events g (expand chart ends_of no_gates n e).part)
    expression_ranked n Empty w h = record { rank = λ j. 0; ranked = tt }
    expression_ranked n (Chart name) w h = ranks name n w h
    expression_ranked n (Alt parts) w h = let a = parts_ranked n parts w h in record { rank = a.rank; ranked = row_is_all a.rank (map_all_events g (expand_all chart ends_of no_gates n parts).parts) a.ranked }
    expression_ranked n (Par parts) w h = let a = parts_ranked n parts w h in record { rank = a.rank; ranked = row_is_all a.rank (map_all_events g (expand_all chart ends_of no_gates n parts).parts) a.ranked }
    expression_ranked n (Seq parts) w h = let a = parts_ranked n parts w h in record { rank = a.rank; ranked = a.ranked }
    expression_ranked n (Opt part) w h = let a = expression_ranked n part w (tells_left g (events_in (expand chart ends_of no_gates n part).part) [] h) in record { rank = a.rank; ranked = (a.ranked, (tt, tt)) }
    expression_ranked n (expression.Loop lower upper part) w h = let a = expression_ranked n part w h in record { rank = λ j. 0; ranked = (a.rank, a.ranked) }

    parts_ranked : (n : ℕ) (xs : Expressions) → NameOnly Named xs → TellsNames g (all_events_in (expand_all chart ends_of no_gates n xs).parts) → CanAllBeRanked (expand_all chart ends_of no_gates n xs).parts
    parts_ranked n none w h = record { rank = λ j. 0; ranked = tt }
    parts_ranked n (more x xs) (w, v) h =
        let e = expand chart ends_of no_gates n x in
        let l = expand_all chart ends_of no_gates e.next xs in
        let a = expression_ranked n x w (tells_left g (events_in e.part) (all_events_in l.parts) h) in
        let b = parts_ranked e.next xs v (tells_right g (events_in e.part) (all_events_in l.parts) h) in
        let here = expression_kept HasPlaces HavePlaces placed_kept ends_of chart chart Named places no_gates x w n in
        let behind = parts_kept HasPlaces HavePlaces placed_kept ends_of chart chart Named places no_gates xs v e.next in
        record { rank = joined e.next a.rank b.rank; ranked = joined_row g keeps n e.next l.next a.rank b.rank e.part l.parts here.within behind.within a.ranked b.ranked }

  -- graphs are walks, of which nothing is asked
  frames_ranked : (n : ℕ) (held : Graphs) → AreRanked (λ j. 0) (map_all_events g (expand_frames chart ends_of n held).parts)
  frames_ranked n no_graphs = tt
  frames_ranked n (graph_and (graph starts lines) rest) = (tt, frames_ranked (expand_graph chart ends_of n (graph starts lines)).next rest)

  node_ranked : (n : ℕ) (node : Node) → NodeNamesOnly Named node → TellsNames g (events_in (expand_node chart ends_of n node).part) → CanBeRanked (map_events g (expand_node chart ends_of n node).part)
  node_ranked n Ends w h = record { rank = λ j. 0; ranked = tt }
  node_ranked n Connect w h = record { rank = λ j. 0; ranked = tt }
  node_ranked n (Condition names) w h = record { rank = λ j. 0; ranked = tt }
  node_ranked n (graphs.Refer e) w h = expression_ranked n e w h
  node_ranked n (Frames held) w h = record { rank = λ j. 0; ranked = frames_ranked n held }

  pub lines_ranked : (n : ℕ) (lines : Lines) → LinesNameOnly Named lines → TellsNames g (all_events_in (expand_lines chart ends_of n lines).parts) → EachPart CanBeRanked (map_all_events g (expand_lines chart ends_of n lines).parts)
  lines_ranked n no_lines w h = tt
  lines_ranked n (line_and (line label place node next) rest) (w, v) h =
      let e = expand_node chart ends_of n node in
      let l = expand_lines chart ends_of e.next rest in
      (node_ranked n node w (tells_left g (events_in e.part) (all_events_in l.parts) h), lines_ranked e.next rest v (tells_right g (events_in e.part) (all_events_in l.parts) h))
