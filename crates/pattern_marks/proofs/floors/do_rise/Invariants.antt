use Rattle.std.proofs.Common.{List, drop}
use Rattle.chart_term.specs.Terms.{Tree}
use Rattle.pattern_marks.proofs.Waits.{IsUnder}
use Rattle.pattern_marks.proofs.floors.do_rise.Given as goal

abbrev pub invariant-loop-mark : goal.invariant-loop-mark
invariant-loop-mark l = (ts : List Tree) → IsUnder ts l.marks (drop l.mark-index l.marks) l.floors
