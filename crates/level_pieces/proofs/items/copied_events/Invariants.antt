use Rattle.std.proofs.Common.{◌≡◌, ◌++◌, drop, map}
use Rattle.msc_meaning.specs.Levels.{nodes_from}
use Rattle.msc_meaning.specs.Views.{node_view}
use Rattle.level_pieces.proofs.items.copied_events.Given as goal

abbrev pub invariant-loop-event : goal.invariant-loop-event
invariant-loop-event l = map node_view l.nodes ++ nodes_from l.number l.at (drop l.event-index l.list) ≡ nodes_from l.first l.at l.list
