use Rattle.std.proofs.Common.{◌≡◌, ◌++◌, drop, map}
use Rattle.level_weaving.specs.LevelPairs.{edges_at}
use Rattle.level_weaving.specs.EventViews.{event_view}
use Rattle.level_weaving.proofs.pairing.numbered.Given as goal

abbrev pub invariant-loop-pair : goal.invariant-loop-pair
invariant-loop-pair l = l.edges.items ++ edges_at (map event_view l.events) (drop l.pair-index l.pairs) ≡ edges_at (map event_view l.events) l.pairs
