use Rattle.std.proofs.Common.{take}
use Rattle.msc_base.specs.Places.{IsLeast}
use Rattle.graph_rules.specs.GraphRules.{HasEndlessLine, InGraphs}
use Rattle.graph_rules.specs.GraphViews.{graphs_view}
use Rattle.graph_rules.proofs.ends.endless_line.Given as goal

abbrev pub invariant-loop-graph : goal.invariant-loop-graph
invariant-loop-graph l = IsLeast (InGraphs HasEndlessLine (graphs_view (take l.graph-index l.graphs))) l.found
