use Rattle.std.proofs.Common.{◌≡◌, ◌++◌, take}
use Rattle.msc_meaning.specs.Calls.{calls}
use Rattle.msc_meaning.specs.ItemViews.{items_view}
use Rattle.msc_meaning.specs.Ties.{event_ties}
use Rattle.expanded_charts.specs.GateTies.{ties_view}
use Rattle.expanded_charts.proofs.gate_ties.push_callers.Given as goal

abbrev pub invariant-loop-item : goal.invariant-loop-item
invariant-loop-item l = ties_view l.ties.items ≡ ties_view l.fn.ties.items ++ event_ties (calls (items_view (take l.item-index l.items)))
