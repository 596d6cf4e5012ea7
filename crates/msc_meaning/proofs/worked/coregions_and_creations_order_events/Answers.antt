use Rattle.msc_meaning.proofs.WorkedTurns.{coregion_unfolds, inputs_in_order_conform, later_input_fails, creation_unfolds, creation_conforms, child_first_fails}
use Rattle.msc_meaning.proofs.worked.coregions_and_creations_order_events.Goals as goal

pub returns-clause-coregion : goal.returns-clause-coregion
returns-clause-coregion c = coregion_unfolds

pub returns-clause-in_order : goal.returns-clause-in_order
returns-clause-in_order c = inputs_in_order_conform

pub returns-clause-later_first : goal.returns-clause-later_first
returns-clause-later_first c = later_input_fails

pub returns-clause-creation : goal.returns-clause-creation
returns-clause-creation c = creation_unfolds

pub returns-clause-created : goal.returns-clause-created
returns-clause-created c = creation_conforms

pub returns-clause-child_first : goal.returns-clause-child_first
returns-clause-child_first c = child_first_fails
