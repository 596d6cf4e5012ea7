use Rattle.std.proofs.Common.{◌≡◌, length}
use Rattle.bit_sets.specs.NodeSets.{HasNoNodes, NodeSetValue}
use Rattle.next_labels.specs.Marks.{MarksMore}
use Rattle.next_labels.proofs.Marked.{Below}
use Rattle.next_labels.proofs.marking.marks_by_asking.Given as goal

abbrev pub invariant-loop-number : goal.invariant-loop-number
invariant-loop-number l = (none : NodeSetValue) × HasNoNodes none × (none.size ≡ length l.nets.labels) × MarksMore l.nets l.set (Below l.number) none l.marks
