use Rattle.msc_meaning.proofs.WorkedChoices.{message_unfolds, message_conforms, input_first_fails, nothing_stops_early, second_output_fails}
use Rattle.msc_meaning.proofs.worked.a_message_is_ordered.Goals as goal

pub returns-clause-unfolds : goal.returns-clause-unfolds
returns-clause-unfolds c = message_unfolds

pub returns-clause-conforms : goal.returns-clause-conforms
returns-clause-conforms c = message_conforms

pub returns-clause-input_first : goal.returns-clause-input_first
returns-clause-input_first c = input_first_fails

pub returns-clause-empty : goal.returns-clause-empty
returns-clause-empty c = nothing_stops_early

pub returns-clause-output_again : goal.returns-clause-output_again
returns-clause-output_again c = second_output_fails
