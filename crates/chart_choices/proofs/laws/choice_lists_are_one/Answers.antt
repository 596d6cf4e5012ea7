use Rattle.chart_choices.proofs.OneList.{choice_lists_are_one}
use Rattle.chart_choices.proofs.laws.choice_lists_are_one.Goals as goal

pub returns : goal.returns
returns c = choice_lists_are_one
