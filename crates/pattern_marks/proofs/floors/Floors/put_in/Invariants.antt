use Rattle.std.proofs.Common.{length}
use Rattle.pattern_marks.specs.HeldFloors.{ArePuttingIn}
use Rattle.pattern_marks.proofs.floors.Floors.put_in.Given as goal

abbrev pub invariant-loop-self : goal.invariant-loop-self
invariant-loop-self l = ArePuttingIn l.length l.initial.self l.self

abbrev pub decreases-loop-self : goal.decreases-loop-self
decreases-loop-self l = length l.self.aside
