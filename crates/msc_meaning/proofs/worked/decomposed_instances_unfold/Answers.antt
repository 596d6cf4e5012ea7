use Rattle.msc_meaning.proofs.WorkedRefinements.{decomposition_unfolds, decomposition_conforms, matched_input_fails, both_ends_unfold}
use Rattle.msc_meaning.proofs.worked.decomposed_instances_unfold.Goals as goal

pub returns-clause-one : goal.returns-clause-one
returns-clause-one c = decomposition_unfolds

pub returns-clause-conforms : goal.returns-clause-conforms
returns-clause-conforms c = decomposition_conforms

pub returns-clause-input_first : goal.returns-clause-input_first
returns-clause-input_first c = matched_input_fails

pub returns-clause-both : goal.returns-clause-both
returns-clause-both c = both_ends_unfold
