use Rattle.std.proofs.Common.{◌≡◌, [], take}
use Rattle.msc_meaning.specs.Calls.{calls}
use Rattle.msc_meaning.specs.ItemViews.{items_view}
use Rattle.gate_ends.proofs.calling.items_call_gate.Given as goal

abbrev pub invariant-loop-item : goal.invariant-loop-item
invariant-loop-item l = calls (items_view (take l.item-index l.items)) ≡ []
