use Rattle.pattern_marks.specs.HeldMeetings.{GoForward}
use Rattle.pattern_marks.proofs.ties.Meetings.go_forward.Given as goal

abbrev pub invariant-loop-index : goal.invariant-loop-index
invariant-loop-index l = GoForward l.self.met l.from l.pairs l.index
