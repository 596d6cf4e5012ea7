use Rattle.std.proofs.Common.{map, take}
use Rattle.level_weaving.specs.EventViews.{event_view}
use Rattle.level_weaving.specs.Marks.{AreMarks, key_view}
use Rattle.level_weaving.proofs.matching.marks_of.Given as goal

abbrev pub invariant-loop-placed : goal.invariant-loop-placed
invariant-loop-placed l = AreMarks (map key_view l.keys.keys) (map event_view (take l.placed-index l.events)) l.held.items
