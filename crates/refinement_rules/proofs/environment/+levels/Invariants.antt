use Rattle.std.proofs.Common.{◌≡◌, ◌||◌, drop}
use Rattle.chart_forms.specs.BodyEvents.{items_within, operands_within}
use Rattle.msc_meaning.specs.ItemViews.{bodies_view, items_view}
use Rattle.refinement_rules.specs.Judging.{some_env}
use Rattle.refinement_rules.proofs.environment.+levels.Given as goal

abbrev pub invariant-items_have_env-loop-item : goal.invariant-items_have_env-loop-item
invariant-items_have_env-loop-item l = (l.one || some_env (items_within (items_view (drop l.item-index l.items)))) ≡ some_env (items_within (items_view l.items))

abbrev pub invariant-operands_have_env-loop-operand : goal.invariant-operands_have_env-loop-operand
invariant-operands_have_env-loop-operand l = (l.one || some_env (operands_within (bodies_view (drop l.operand-index l.operands)))) ≡ some_env (operands_within (bodies_view l.operands))
