use Rattle.std.proofs.Common.{◌≡◌, ◌++◌, drop}
use Rattle.msc_meaning.specs.ItemViews.{items_view}
use Rattle.gate_rules.specs.GateRules.{items_joined_again}
use Rattle.gate_rules.proofs.rejoining.note_rejoined.Given as goal

abbrev pub invariant-loop-item : goal.invariant-loop-item
invariant-loop-item l = l.places ++ items_joined_again (items_view (drop l.item-index l.items)) ≡ l.initial.places ++ items_joined_again (items_view l.items)
