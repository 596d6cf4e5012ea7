-- What each graph that is read has beside its tree, and so has each of its frames: a label at which walks start, and in the expressions of its
-- nodes two parts at least of what is put together (Z.120, clause 7.5).
use Rattle.std.specs.Prelude.{◌≡◌, Bool, true, false, List, [], ◌∷◌}
use Rattle.chart_text.specs.WellFormed.{has_parts}
use Rattle.msc_base.specs.declared.label.LabelRef.{LabelRef}
use Rattle.msc_tree.specs.Charts.{Chart, Content, Basic, HighLevel}
use Rattle.msc_tree.specs.Graphs.{Graph, graph, Lines, no_lines, line_and, Line, line, Node, Ends, Connect, Condition, Refer, Frames, Graphs, no_graphs, graph_and}

abbrev pub has_start : List LabelRef → Bool
has_start [] = false
has_start (label ∷ labels) = true

abbrev mutual
  pub IsFormedGraph : Graph → Type 0
  IsFormedGraph (graph starts lines) = (has_start starts ≡ true) × AreFormedLines lines

  pub AreFormedLines : Lines → Type 0
  AreFormedLines no_lines = Unit {0}
  AreFormedLines (line_and x rest) = IsFormedLine x × AreFormedLines rest

  pub IsFormedLine : Line → Type 0
  IsFormedLine (line label place node next) = IsFormedNode node

  pub IsFormedNode : Node → Type 0
  IsFormedNode Ends = Unit {0}
  IsFormedNode Connect = Unit {0}
  IsFormedNode (Condition names) = Unit {0}
  IsFormedNode (Refer expression) = has_parts expression ≡ true
  IsFormedNode (Frames held) = AreFormedFrames held

  pub AreFormedFrames : Graphs → Type 0
  AreFormedFrames no_graphs = Unit {0}
  AreFormedFrames (graph_and drawn rest) = IsFormedGraph drawn × AreFormedFrames rest

-- the graph of a chart, where it has one
abbrev pub HasFormedGraph : Content → Type 0
HasFormedGraph (Basic held) = Unit {0}
HasFormedGraph (HighLevel drawn) = IsFormedGraph drawn

abbrev pub HaveFormedGraphs : List Chart → Type 0
HaveFormedGraphs [] = Unit {0}
HaveFormedGraphs (c ∷ charts) = HasFormedGraph c.content × HaveFormedGraphs charts
