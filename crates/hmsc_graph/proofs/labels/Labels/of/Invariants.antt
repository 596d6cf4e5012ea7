use Rattle.std.proofs.Common.{◌≡◌, fold, take, [], None}
use Rattle.hmsc_graph.specs.Labels.{with_line}
use Rattle.hmsc_graph.proofs.LabelFacts.{labels_of}
use Rattle.hmsc_graph.proofs.labels.Labels.of.Given as goal

abbrev pub invariant-loop-line : goal.invariant-loop-line
invariant-loop-line l = l.labels ≡ fold with_line (labels_of [] None) (take l.line-index l.lines)
