use Rattle.std.proofs.Common.{drop}
use Rattle.expansion_tree.specs.Views.{expansions_view}
use Rattle.choice_parts.specs.ChoiceParts.{part_list}
use Rattle.chart_choices.proofs.Steps.{IsLeftOf}
use Rattle.chart_choices.proofs.makers.add_all_makers.Given as goal

abbrev pub invariant-loop-operand : goal.invariant-loop-operand
invariant-loop-operand l = IsLeftOf l.initial.tables (part_list (expansions_view l.operands)) l.initial.makers.keys l.tables (part_list (expansions_view (drop l.operand-index l.operands))) l.makers.keys
