use Rattle.std.proofs.Common.{take}
use Rattle.next_labels.specs.Marks.{AreMarks}
use Rattle.next_labels.proofs.marking.marks_of_terms.Given as goal

abbrev pub invariant-loop-index : goal.invariant-loop-index
invariant-loop-index l = AreMarks l.nets (take l.index l.terms.items) l.marks
