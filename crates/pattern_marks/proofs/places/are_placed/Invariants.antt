use Rattle.std.proofs.Common.{List, take}
use Rattle.chart_term.specs.Terms.{Tree}
use Rattle.pattern_marks.specs.Marks.{signs_of}
use Rattle.pattern_marks.specs.Meetings.{AreCounted, HaveMet}
use Rattle.pattern_marks.specs.Tests.{events_in}
use Rattle.pattern_marks.proofs.places.are_placed.Given as goal

abbrev pub invariant-loop-mark : goal.invariant-loop-mark
invariant-loop-mark l = record {
  counted : AreCounted l.labels l.places;
  met : (ts : List Tree) → HaveMet l.labels (events_in (signs_of ts (take l.mark-index l.marks))) l.places;
}
