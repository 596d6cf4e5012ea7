use Rattle.std.proofs.Common.{◌≡◌, ◌++◌, drop}
use Rattle.msc_meaning.specs.Calls.{calls}
use Rattle.msc_meaning.specs.ItemViews.{items_view}
use Rattle.gate_ends.specs.CallViews.{calls_view}
use Rattle.gate_ends.proofs.calls.calls_in.Given as goal

abbrev pub invariant-loop-item : goal.invariant-loop-item
invariant-loop-item l = calls_view l.calls.items ++ calls (items_view (drop l.item-index l.items)) ≡ calls (items_view l.items)
