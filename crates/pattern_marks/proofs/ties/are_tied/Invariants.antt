use Rattle.std.proofs.Common.{drop}
use Rattle.pattern_marks.proofs.Holding.{IsHeldFor}
use Rattle.pattern_marks.proofs.ties.are_tied.Given as goal

abbrev pub invariant-loop-mark : goal.invariant-loop-mark
invariant-loop-mark l = IsHeldFor l.outline.terms l.marks (drop l.mark-index l.marks) l.meetings
