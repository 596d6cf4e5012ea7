use Rattle.std.proofs.Common.{take}
use Rattle.msc_base.specs.Places.{IsLeast}
use Rattle.graph_rules.specs.GraphRules.{HasFurtherLine, InGraphs}
use Rattle.graph_rules.specs.GraphViews.{graphs_view}
use Rattle.graph_rules.proofs.lines.further_line.Given as goal

abbrev pub invariant-loop-graph : goal.invariant-loop-graph
invariant-loop-graph l = IsLeast (InGraphs HasFurtherLine (graphs_view (take l.graph-index l.graphs))) l.found
