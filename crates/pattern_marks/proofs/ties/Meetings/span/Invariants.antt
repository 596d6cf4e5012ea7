use Rattle.std.proofs.Common.{max}
use Rattle.pattern_marks.specs.HeldMeetings.{IsSought, IsSpan}
use Rattle.pattern_marks.proofs.ties.Meetings.span.Given as goal

abbrev pub invariant-loop-latest : goal.invariant-loop-latest
invariant-loop-latest l = record {
  sought : IsSought l.self.met l.number l.latest;
  span : IsSpan l.self.met l.number (max l.from l.latest) l.span;
}

abbrev pub decreases-loop-latest : goal.decreases-loop-latest
decreases-loop-latest l = l.latest
