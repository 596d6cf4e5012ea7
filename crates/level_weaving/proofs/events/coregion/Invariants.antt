use Rattle.std.proofs.Common.{◌≡◌, ◌++◌, drop}
use Rattle.msc_meaning.specs.Levels.{nodes_from}
use Rattle.level_weaving.proofs.events.coregion.Given as goal

abbrev pub invariant-loop-event : goal.invariant-loop-event
invariant-loop-event l = l.events ++ nodes_from l.number l.at (drop l.event-index l.list) ≡ l.initial.events ++ nodes_from l.first l.at l.list
