use Rattle.std.proofs.Common.{take}
use Rattle.msc_rules.specs.FirstFaults.{IsBest}
use Rattle.msc_rules.specs.Rules.{number_of}
use Rattle.graph_rules.specs.GraphRules.{BreakLabels, labels}
use Rattle.graph_rules.specs.GraphViews.{graphs_view}
use Rattle.graph_rules.proofs.label_faults.label_fault.Given as goal

abbrev pub invariant-loop-graph : goal.invariant-loop-graph
invariant-loop-graph l = IsBest number_of (BreakLabels (graphs_view (take l.graph-index l.graphs))) labels l.found
