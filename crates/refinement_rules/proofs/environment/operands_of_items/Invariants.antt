use Rattle.std.proofs.Common.{◌≡◌, ◌||◌, drop}
use Rattle.msc_meaning.specs.ItemViews.{items_view}
use Rattle.refinement_rules.specs.Judging.{operands_env}
use Rattle.refinement_rules.proofs.environment.operands_of_items.Given as goal

abbrev pub invariant-loop-item : goal.invariant-loop-item
invariant-loop-item l = (l.one || operands_env (items_view (drop l.item-index l.items))) ≡ operands_env (items_view l.items)
