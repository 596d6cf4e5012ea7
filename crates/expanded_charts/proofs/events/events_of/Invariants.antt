use Rattle.std.proofs.Common.{ℕ, map, take}
use Rattle.msc_meaning.specs.Tables.{Table}
use Rattle.msc_meaning.specs.Views.{node_view}
use Rattle.level_surroundings.specs.Givens.{around_view}
use Rattle.expanded_charts.specs.Making.{AreMade, events_parts}
use Rattle.expanded_charts.proofs.events.events_of.Given as goal

abbrev pub invariant-loop-node : goal.invariant-loop-node
invariant-loop-node l = (table : Table) (depth : ℕ) → AreMade l.fn.numbering l.numbering (events_parts table depth l.level.called.now (around_view l.level.given) l.next (map node_view (take l.node-index l.nodes))) l.parts
