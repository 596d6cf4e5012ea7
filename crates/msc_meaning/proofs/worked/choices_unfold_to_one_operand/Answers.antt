use Rattle.msc_meaning.proofs.WorkedChoices.{alternatives_unfold, second_operand_conforms, option_unfolds, nothing_conforms}
use Rattle.msc_meaning.proofs.worked.choices_unfold_to_one_operand.Goals as goal

pub returns-clause-alternatives : goal.returns-clause-alternatives
returns-clause-alternatives c = alternatives_unfold

pub returns-clause-second : goal.returns-clause-second
returns-clause-second c = second_operand_conforms

pub returns-clause-option : goal.returns-clause-option
returns-clause-option c = option_unfolds

pub returns-clause-left_out : goal.returns-clause-left_out
returns-clause-left_out c = nothing_conforms
