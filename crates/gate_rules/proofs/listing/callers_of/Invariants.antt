use Rattle.std.proofs.Common.{◌≡◌, ◌++◌, drop}
use Rattle.msc_meaning.specs.ItemViews.{items_view}
use Rattle.gate_rules.specs.Callers.{callers_view}
use Rattle.gate_rules.specs.GateRules.{callers}
use Rattle.gate_rules.proofs.listing.callers_of.Given as goal

abbrev pub invariant-loop-item : goal.invariant-loop-item
invariant-loop-item l = callers_view l.callers.items ++ callers (items_view (drop l.item-index l.items)) ≡ callers (items_view l.items)
