use Rattle.msc_meaning.proofs.WorkedChoices.{exception_unfolds, exception_conforms, behind_exception_fails}
use Rattle.msc_meaning.proofs.worked.an_exception_ends_its_level.Goals as goal

pub returns-clause-unfolds : goal.returns-clause-unfolds
returns-clause-unfolds c = exception_unfolds

pub returns-clause-conforms : goal.returns-clause-conforms
returns-clause-conforms c = exception_conforms

pub returns-clause-behind : goal.returns-clause-behind
returns-clause-behind c = behind_exception_fails
